-- What a task says fits its PDUs, and each of them a message.
use Rattle.std.proofs.Common.{◌≡◌, ℕ, pos, ◌+◌, ◌^◌, ◌<◌, ◌≤◌, Bool, true, ◌&&◌, nat_le, List, [], ◌∷◌}
use Rattle.std.proofs.Common.{length, Option, Some, None, IfSome, codes, refl, arith}
use Rattle.std.proofs.lemmas.Bool.{and_parts}
use Rattle.std.specs.List.{list_all}
use Rattle.ber_core.specs.Integer.{integer_octets}
use Rattle.ber_core.specs.Length.{shortest_length}
use Rattle.ber_core.specs.Tree.{primitive, constructed, tree_and, no_trees}
use Rattle.ber_core.specs.Spelling.{canonical, canonical_all}
use Rattle.ber_core.specs.Parts.{length-primitive, length-constructed, length-tree_and}
use Rattle.ber_core.specs.Reading.{is_visible}
use Rattle.ber_shape.specs.Content.{IsVisible}
use Rattle.ber_shape.specs.Members.{Members, structured_few}
use Rattle.bind_pdu.specs.Binding.{bind}
use Rattle.cds_time.specs.Octets.{FieldsFit}
use Rattle.cds_time.specs.declared.cds.Cds.{Cds}
use Rattle.cds_time.specs.declared.cds.Rest.{Rest}
use Rattle.cds_time.specs.declared.cds.Rest.TheVariants.{Micros, Picos}
use Rattle.isp1_auth.specs.declared.secret.Secret.{Secret}
use Rattle.isp1_auth.specs.Digest.{digest}
use Rattle.isp1_auth.specs.Signed.{signed}
use Rattle.fcltu_pdu.specs.declared.cltu_transfer.CltuTransfer.{CltuTransfer}
use Rattle.fcltu_pdu.specs.Transfer.{transfer_of, transfer_pdu}
use Rattle.return_pdu.specs.declared.raf_start.RafStart.{RafStart}
use Rattle.return_pdu.specs.declared.rcf_start.RcfStart.{RcfStart}
use Rattle.return_pdu.specs.Scheduling.{schedule}
use Rattle.return_pdu.specs.Seen.{raf_start_of, rcf_start_of}
use Rattle.return_pdu.specs.Starting.{raf_start, rcf_start}
use Rattle.sle_common.specs.Credentials.{credentials, credentials_of}
use Rattle.sle_common.specs.Numbers.{invoke_id}
use Rattle.sle_common.specs.Gvcid.{gvcid, channel}
use Rattle.sle_common.specs.Identifier.{IsIdentifier}
use Rattle.sle_common.specs.Time.{time, conditional_time}
use Rattle.sle_common.specs.declared.gvcid.Channel.{Channel}
use Rattle.sle_common.specs.declared.gvcid.Channel.TheVariants.{Master, Virtual}
use Rattle.sle_common.specs.declared.gvcid.Gvcid.{Gvcid}
use Rattle.sle_numbers.specs.ServiceType.{number_of}
use Rattle.sle_numbers.specs.declared.service_type.ServiceType.{ServiceType}
use Rattle.sle_numbers.specs.declared.service_type.ServiceType.TheVariants.{RtnAllFrames, RtnChFrames}
use Rattle.sle_numbers.specs.declared.service_type.ServiceType.TheVariants.{FwdCltu}
use Rattle.user_task.specs.declared.task.Task.{Task}
use Rattle.user_task.specs.declared.cltus.CltuLine.{CltuLine}
use Rattle.user_task.specs.Fitting.{is_name, fits_gvcid, fits_channel, fits_line}
use Rattle.user_task.specs.Message.{bind_said, schedule_said}
use Rattle.user_task.specs.Work.{service_of}

-- ---- few octets

pub few_octets : {X : Type 0} (tag : List ℕ) (m : Members X) (x : X) → m.Fits x
    → nat_le (length tag + 9 + m.most) 1048576 ≡ true
    → length (canonical (constructed tag (m.trees x))) ≤ 1048576
few_octets tag m x fits short = grind (arith, structured_few tag m x fits)

-- ---- credentials have at least 8 octets: each of their four elements has a tag and a length

some_length : (n : ℕ) → 1 ≤ length (shortest_length n)
unfolding shortest_length
some_length n = grind arith

some_primitive : (tag content : List ℕ) → 1 ≤ length tag
    → 2 ≤ length (canonical (primitive tag content))
some_primitive tag content one =
    omega (arith, one, length-primitive tag content, some_length (length content))

pub some_signed : (secret : Secret) (time : List ℕ) (number : ℕ)
    → 8 ≤ length (signed secret time number)
some_signed secret time number =
    let t = primitive (0x04 ∷ []) time in
    let n = primitive (0x02 ∷ []) (integer_octets (pos number)) in
    let p = primitive (0x04 ∷ []) (digest secret time number) in
    let trees = tree_and t (tree_and n (tree_and p no_trees)) in
    omega (
      arith,
      length-constructed (0x30 ∷ []) trees,
      some_length (length (canonical_all trees)),
      length-tree_and t (tree_and n (tree_and p no_trees)),
      length-tree_and n (tree_and p no_trees),
      length-tree_and p no_trees,
      some_primitive (0x04 ∷ []) time (omega arith),
      some_primitive (0x02 ∷ []) (integer_octets (pos number)) (omega arith),
      some_primitive (0x04 ∷ []) (digest secret time number) (omega arith),
    )

-- ---- times, and the numbers of a channel

form_fits : (days millis : ℕ) (rest : Rest)
    → FieldsFit (record { days = days; millis = millis; rest = rest })
    → time.Fits (record { days = days; millis = millis; rest = rest })
form_fits days millis (Micros n) fit = record { fields = fit; form = refl }
form_fits days millis (Picos n) fit = record { fields = fit; form = refl }

pub time_fits : (t : Cds) → FieldsFit t → time.Fits t
time_fits t fit = form_fits t.days t.millis t.rest fit

pub conditional_fits : (t : Option Cds) → IfSome t (λ t. time.Fits t) → conditional_time.Fits t
conditional_fits None fit = tt
conditional_fits (Some t) fit = fit

invoke_fits : (n : ℕ) → n < 2 ^ 16 → invoke_id.Fits n
invoke_fits n small = record { least_so = omega arith; greatest_so = omega arith }

pub raf_fits : (s : RafStart) → credentials.Fits (credentials_of s.credentials)
    → s.invoke < 2 ^ 16 → conditional_time.Fits s.start → conditional_time.Fits s.stop
    → raf_start.Fits (raf_start_of s)
raf_fits s signed invoke from to = (signed, (invoke_fits s.invoke invoke, (from, (to, tt))))

pub schedule_fits : (cycle invoke : ℕ) (by : Option (List ℕ)) → credentials.Fits by
    → cycle < 2 ^ 16 → invoke < 2 ^ 16 → schedule.Fits (schedule_said cycle invoke by)
schedule_fits cycle invoke by signed small few =
    (signed, (invoke_fits invoke few, record { least_so = omega arith; greatest_so = omega arith }))

pub transfer_fits : (t : CltuTransfer) → credentials.Fits (credentials_of t.credentials)
    → t.invoke < 2 ^ 16 → t.id < 2 ^ 32 → t.radiation_delay < 2 ^ 32
    → conditional_time.Fits t.earliest → conditional_time.Fits t.latest
    → 1 ≤ length t.octets.now → length t.octets.now ≤ 65536
    → transfer_pdu.Fits (transfer_of t)
transfer_fits t signed invoke id delay from to some few = (
  signed,
  (
    invoke_fits t.invoke invoke,
    (
      record { least_so = omega arith; greatest_so = omega arith },
      (
        from,
        (
          to,
          (
            record { least_so = omega arith; greatest_so = omega arith },
            (tt, record { least_so = some; greatest_so = few }),
          ),
        ),
      ),
    ),
  ),
)

at_least : (least n : ℕ) → nat_le least n ≡ true → least ≤ n
at_least least n e = grind arith

pub line_parts : (line : CltuLine) → fits_line line ≡ true
    → (1 ≤ length line.octets) × (length line.octets ≤ 65536)
line_parts line fits =
    let both = and_parts (nat_le 1 (length line.octets)) (nat_le (length line.octets) 65536) fits in
    (at_least 1 (length line.octets) both.0, at_least (length line.octets) 65536 both.1)

channel_fits : (spacecraft version : ℕ) (c : Channel)
    → fits_gvcid (record { spacecraft = spacecraft; version = version; channel = c }) ≡ true
    → gvcid.Fits (record { spacecraft = spacecraft; version = version; channel = c })
channel_fits spacecraft version c e =
    let parts = and_parts (nat_le spacecraft 1023 && nat_le version 3) (fits_channel c) e in
    let low = and_parts (nat_le spacecraft 1023) (nat_le version 3) parts.0 in (
      record { least_so = omega arith; greatest_so = at_least spacecraft 1023 low.0 },
      (
        record { least_so = omega arith; greatest_so = at_least version 3 low.1 },
        last c parts.1,
      ),
    )
  where
    last : (c : Channel) → fits_channel c ≡ true → channel.Fits c
    last Master e = tt
    last (Virtual n) e = record { least_so = omega arith; greatest_so = at_least n 63 e }

gvcid_fits : (g : Gvcid) → fits_gvcid g ≡ true → gvcid.Fits g
gvcid_fits g e = channel_fits g.spacecraft g.version g.channel e

pub rcf_fits : (s : RcfStart) → credentials.Fits (credentials_of s.credentials)
    → s.invoke < 2 ^ 16 → conditional_time.Fits s.start → conditional_time.Fits s.stop
    → fits_gvcid s.channel ≡ true → rcf_start.Fits (rcf_start_of s)
rcf_fits s signed invoke from to channel =
    (signed, (invoke_fits s.invoke invoke, (from, (to, gvcid_fits s.channel channel))))

-- ---- BIND

name_fits : (name : List ℕ) → is_name name ≡ true → IsVisible 3 16 name
name_fits name e =
    let parts = and_parts (nat_le 3 (length name) && nat_le (length name) 16)
    (list_all is_visible name) e in
    let lengths = and_parts (nat_le 3 (length name)) (nat_le (length name) 16) parts.0 in
    record {
      lengths = record {
        least_so = at_least 3 (length name) lengths.0;
        greatest_so = at_least (length name) 16 lengths.1;
      };
      visible_all = parts.1;
    }

port_fits : IsVisible 1 128 (codes "PORT1")
port_fits =
    record {
      lengths = record { least_so = omega arith; greatest_so = omega arith };
      visible_all = refl;
    }

service_fits : (s : ServiceType) → number_of s ≤ 65535
service_fits RtnAllFrames = omega arith
service_fits RtnChFrames = omega arith
service_fits FwdCltu = omega arith

pub bind_fits : (task : Task) (by : Option (List ℕ)) → is_name task.name ≡ true
    → credentials.Fits by → IsIdentifier task.instance → bind.Fits (bind_said task by)
bind_fits task by name signed instance = (
  signed,
  (
    name_fits task.name name,
    (
      port_fits,
      (
        record { least_so = omega arith; greatest_so = service_fits (service_of task.work) },
        (record { least_so = omega arith; greatest_so = omega arith }, instance),
      ),
    ),
  ),
)
