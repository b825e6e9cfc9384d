-- The lines of a stream that a user hears, a first word and the row behind it each. This product's
-- own.
use Rattle.std.proofs.Common.{◌≡◌, ℕ, ◌⊎◌, inl, inr, List, [], ◌∷◌, Option, Some, None, refl}
use Rattle.std.specs.Prelude.{codes, map}
use Rattle.cds_time.specs.declared.cds.Cds.{Cds}
use Rattle.fcltu_numbers.specs.CltuNotificationType as kinds
use Rattle.fcltu_numbers.specs.declared.cltu_notification_type.CltuNotificationType.{CltuNotificationType}
use Rattle.sle_numbers.specs.FrameQuality as qualities
use Rattle.sle_numbers.specs.LockStatus as locks
use Rattle.sle_numbers.specs.declared.frame_quality.FrameQuality.{FrameQuality}
use Rattle.sle_numbers.specs.declared.lock_status.LockStatus.{LockStatus}
use Rattle.words.specs.Fixed.{fixed}
use Rattle.words.specs.HexOctets.{hex}
use Rattle.words.specs.Kind.{Kind}
use Rattle.words.specs.Last.{last}
use Rattle.words.specs.Line.{reading}
use Rattle.words.specs.Listed.{AreListed}
use Rattle.words.specs.Many.{many}
use Rattle.words.specs.Maybe.{one_of, apart_by_count}
use Rattle.words.specs.Number.{number}
use Rattle.words.specs.Numbers.{numbered}
use Rattle.words.specs.Row.{Row, nothing}
use Rattle.words.specs.Steps.{◌>>=◌}
use Rattle.words.specs.Table.{Table, Says, of_forms}
use Rattle.words.specs.Then.{◌▸◌}
use Rattle.explain_lines.specs.Kinds.{long, integer, antenna, fields, continuity}
use Rattle.explain_lines.specs.declared.kinds.Antenna.{Antenna}
use Rattle.explain_lines.specs.declared.kinds.Integer.{Integer}
use Rattle.explain_lines.specs.declared.stream_form.StreamForm.{StreamForm}
use Rattle.explain_lines.specs.declared.stream_form.StreamForm.TheVariants as form
use Rattle.explain_lines.specs.declared.stream_line.StreamLine.{StreamLine}
use Rattle.explain_lines.specs.declared.stream_line.StreamLine.TheVariants as says

abbrev pub word_of : StreamForm → List ℕ
word_of form.Frame = codes "frame"
word_of form.Loss = codes "loss"
word_of form.Production = codes "production"
word_of form.Backlog = codes "backlog"
word_of form.End = codes "end"
word_of form.Ok = codes "ok"
word_of form.No = codes "no"
word_of form.Notice = codes "notice"
word_of form.Report = codes "report"
word_of form.Abort = codes "abort"
word_of form.Parameter = codes "parameter"
word_of form.Invoke = codes "invoke"
word_of form.Bad = codes "bad"

abbrev pub all_forms : List StreamForm
all_forms =
    form.Frame ∷ form.Loss ∷ form.Production ∷ form.Backlog ∷ form.End ∷ form.Ok ∷ form.No ∷ form.Notice ∷ form.Report ∷ form.Abort ∷ form.Parameter ∷ form.Invoke ∷ form.Bad ∷ []

pub forms_are_listed : AreListed word_of all_forms
forms_are_listed form.Frame = refl
forms_are_listed form.Loss = refl
forms_are_listed form.Production = refl
forms_are_listed form.Backlog = refl
forms_are_listed form.End = refl
forms_are_listed form.Ok = refl
forms_are_listed form.No = refl
forms_are_listed form.Notice = refl
forms_are_listed form.Report = refl
forms_are_listed form.Abort = refl
forms_are_listed form.Parameter = refl
forms_are_listed form.Invoke = refl
forms_are_listed form.Bad = refl

-- an outer tag or a name, and a number of 32 bits
abbrev pub octet : Kind ℕ
octet = number 0 255

abbrev pub count : Kind ℕ
count = number 0 4294967295

abbrev pub quality : Kind FrameQuality
quality = numbered qualities.number_of qualities.all qualities.each

abbrev pub lock : Kind LockStatus
lock = numbered locks.number_of locks.all locks.each

abbrev pub kind : Kind CltuNotificationType
kind = numbered kinds.number_of kinds.all kinds.each

-- continuity, antenna and octets of a frame
abbrev pub Content : Type 0
Content = Option ℕ × (Antenna × List ℕ)

abbrev pub content : Row Content
content = continuity ▸ antenna ▸ last (hex 1 65536)

abbrev pub raf_frame : Row (Cds × (FrameQuality × Content))
raf_frame = fields ▸ quality ▸ content

abbrev pub rcf_frame : Row (Cds × Content)
rcf_frame = fields ▸ content

-- a return, and that of TRANSFER-DATA, which says the next identification and the free octets
abbrev pub room : Row (ℕ × Integer)
room = count ▸ last integer

abbrev pub Behind : StreamForm → Type 0
Behind form.Frame = (Cds × (FrameQuality × Content)) ⊎ (Cds × Content)
Behind form.Loss = Cds × (LockStatus × (LockStatus × LockStatus))
Behind form.Production = Integer
Behind form.Backlog = Unit {0}
Behind form.End = Unit {0}
Behind form.Ok = ℕ ⊎ (ℕ × (ℕ × Integer))
Behind form.No = (ℕ × Integer) ⊎ (ℕ × (Integer × (ℕ × Integer)))
Behind form.Notice = CltuNotificationType
Behind form.Report = List Integer
Behind form.Abort = ℕ
Behind form.Parameter = ℕ
Behind form.Invoke = ℕ
Behind form.Bad = Unit {0} × ℕ

-- the words of each
abbrev pub row_of : (f : StreamForm) → Row (Behind f)
row_of form.Frame = one_of raf_frame rcf_frame (apart_by_count raf_frame rcf_frame refl)
row_of form.Loss = fields ▸ lock ▸ lock ▸ last lock
row_of form.Production = last integer
row_of form.Backlog = nothing
row_of form.End = nothing
row_of form.Ok = one_of (last octet) (octet ▸ room) (apart_by_count (last octet) (octet ▸ room) refl)
row_of form.No =
    one_of (octet ▸ last integer) (octet ▸ integer ▸ room)
    (apart_by_count (octet ▸ last integer) (octet ▸ integer ▸ room) refl)
row_of form.Notice = last kind
row_of form.Report = many integer 6 7
row_of form.Abort = last octet
row_of form.Parameter = last octet
row_of form.Invoke = last octet
row_of form.Bad = fixed (codes "message") ▸ last long

abbrev pub stream : Table StreamForm
stream = record {
  all = all_forms;
  word = word_of;
  each = forms_are_listed;
  Behind = Behind;
  row = row_of;
}

abbrev pub lines : Row (Says stream)
lines = of_forms stream

-- what the words behind a form's word say
unfoldable pub form_reading : StreamForm → List (List ℕ) → Option (Says stream)
form_reading f ws = (row_of f).read ws >>= λ p. Some (f, p)

-- the form and the words of what a line says
abbrev pub framed : Cds → Option FrameQuality → Content → Behind form.Frame
framed at (Some q) c = inl (at, (q, c))
framed at None c = inr (at, c)

abbrev pub heard : StreamLine → Says stream
heard (says.Frame at q missing antenna octets) =
    (form.Frame, framed at q (missing, (antenna, octets)))
heard (says.Loss at carrier subcarrier symbol) = (form.Loss, (at, (carrier, (subcarrier, symbol))))
heard (says.Production status) = (form.Production, status)
heard says.Backlog = (form.Backlog, tt)
heard says.End = (form.End, tt)
heard (says.Done tag) = (form.Ok, inl tag)
heard (says.Taken tag next free) = (form.Ok, inr (tag, (next, free)))
heard (says.Refused tag why) = (form.No, inl (tag, why))
heard (says.NotTaken tag why next free) = (form.No, inr (tag, (why, (next, free))))
heard (says.Notice kind) = (form.Notice, kind)
heard (says.Report numbers) = (form.Report, map (λ n. n) numbers.items)
heard (says.Aborted why) = (form.Abort, why)
heard (says.Parameter name) = (form.Parameter, name)
heard (says.Invoked tag) = (form.Invoke, tag)
heard (says.Bad place) = (form.Bad, (tt, place))
