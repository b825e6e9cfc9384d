-- From the exact transcript to the headline and to completeness.
use Rattle.std.proofs.Common.{◌≡◌, ◌⊎◌, ℕ, ◌+◌, ◌<◌, ◌≤◌, List, [], ◌∷◌, ◌++◌, length, map}
use Rattle.std.proofs.Common.{Option, Some, None, refl, sym, ap, subst, ◌∙◌, nat_lt}
use Rattle.std.proofs.Common.{append_assoc, arith, inl, inr}
use Rattle.std.proofs.Common.{⊎_elim, false}
use Rattle.std.proofs.lemmas.Bool.Decides.{leb_tells}
use Rattle.std.specs.List.{flat_map}
use Rattle.std.specs.Option.{IfSome}
use Rattle.octet_core.specs.Fault.{last_count, count_up, Rose}
use Rattle.archive_terms.specs.Archive.{IsArchive}
use Rattle.station_desk.specs.Start.{moment}
use Rattle.sle_numbers.specs.RequestedFrameQuality.{number_of}
use Rattle.station_desk.specs.ToldBuffer.{ToldBuffer, buffer_message}
use Rattle.station_world.specs.File.{acknowledged}
use Rattle.station_world.specs.World.{World, before_all}
use Rattle.station_world.specs.Comes.{AllCome}
use Rattle.drill_text.specs.Reading.{reading}
use Rattle.station_law.specs.State.{start as new_world}
use Rattle.script_store.specs.Said.{handed, texts}
use Rattle.station_law.specs.Lines.{step_text}
use Rattle.station_law.specs.Runs.{IsTold, transcript, transcript_from}
use Rattle.script_world.specs.Script.{script_events, world_behind}
use Rattle.command_ends.specs.declared.status.Status.{Status}
use Rattle.command_ends.specs.declared.status.Status.TheVariants.{Done, Usage, BadLine, BadSite}
use Rattle.command_ends.specs.declared.status.Status.TheVariants.{ReadFault, WriteFault, Full}
use Rattle.command_ends.specs.declared.status.Status.TheVariants.{InputTooLong, Memory}
use Rattle.command_ends.specs.declared.status.Status.TheVariants.{ArchiveRefused, DiskFault}
use Rattle.script_commands.specs.Drilled.{status_by, Drilled, Completes}
use Rattle.script_commands.specs.Headline.{HasTranscript, HasWorld, IsPlaced, sent}
use Rattle.script_commands.specs.Headline.{IsStreamed, IsReadOf}
use Rattle.script_commands.specs.Laws.{Laws}
use Rattle.script_head.specs.Lines.{lines_of}
use Rattle.command_ends.specs.Outside.{Outside}
use Rattle.script_head.specs.Lines.{most_octets}
use Rattle.script_commands.specs.Script.{script_of, script_text}
use Rattle.script_commands.specs.Start.{Start, IsStartOf, world_at, archive_at, told_by}
use Rattle.script_commands.specs.Start.{messages_of}

-- ---- a START's line

-- what is promised of any line, at this one
at_line : Laws → (script : List ℕ) (s : Start) (is : IsStartOf script s)
    → IsTold step_text (new_world s.site) s.earlier s.later is.line
at_line laws script s is =
    laws.told s.site (s.earlier ++ is.line ∷ s.later) s.earlier s.later is.line refl is.good

not_before : (a b : ℕ) → a ≤ b → nat_lt b a ≡ false
not_before a b le = grind arith

module _ (laws : Laws) (script : List ℕ) (s : Start) (is : IsStartOf script s) where
  -- the published entries are an archive at its line: they are what the world of the earlier lines
  -- has acknowledged
  archive_now : IsArchive (archive_at s)
  archive_now =
      let here = laws.world s.site s.earlier [] in
      let come = subst (AllCome before_all) here.begins.1 here.come in
      let kept = (here.headline [] (script_events reading s.site s.earlier) here.begins.0 tt refl
      here.begins come).recovery (acknowledged (world_behind reading s.site s.earlier).file) (inl refl) in
      subst IsArchive (ap (λ (w : World). acknowledged w.file) here.shows.is
      ∙ here.shows.acknowledges) kept.archive

  pub read_of : IsReadOf s
  read_of = laws.readable (archive_at s) s.start s.stop (number_of s.quality) archive_now

  pub streamed : IsStreamed s
  streamed = λ place. laws.streams place (messages_of s)
      (laws.messages (told_by (archive_at s) s) read_of)

  -- ---- where its messages stand

  messages_sent : (told : List ToldBuffer)
      → texts (map (handed 0) told) ≡ flat_map sent (map buffer_message told)
  messages_sent [] = refl
  messages_sent (buffer ∷ told) =
      ap (λ rest. sent (buffer_message buffer) ++ rest) (messages_sent told)

  text_at : (number : ℕ)
      → transcript_from step_text number (world_at s) (is.line ∷ s.later)
      ≡ flat_map sent (messages_of s)
      ++ transcript_from step_text (number + 1) (world_at s) s.later
  text_at number =
      rw (is.says, not_before (moment s.start) (moment s.stop) is.ordered)
      (ap (λ text. text ++ transcript_from step_text (number + 1) (world_at s) s.later)
      (messages_sent (told_by (archive_at s) s)))

  pub placed : IsPlaced script s
  placed =
      let before = transcript step_text (new_world s.site) s.earlier in
      let count : length s.earlier + 1 + 1 ≡ length s.earlier + 2 = omega arith in
      ap script_text is.stands ∙ (at_line laws script s is).text
      ∙ ap (λ text. before ++ text)
      (text_at (length s.earlier + 1)
      ∙ ap (λ n. flat_map sent (messages_of s)
      ++ transcript_from step_text n (world_at s) s.later) count)
      ∙ sym (append_assoc before (flat_map sent (messages_of s))
      (transcript_from step_text (length s.earlier + 2) (world_at s) s.later))

pub has_transcript : Laws → (script : List ℕ) → HasTranscript script
has_transcript laws script = λ site lines _. laws.told site lines

pub has_world : Laws → (script : List ℕ) → HasWorld script
has_world laws script = λ site first more rest _. laws.world site first more

-- ---- completeness

rose_up : (n : ℕ) → Rose n (count_up n)
rose_up n = ⊎_elim (λ last. inr (let most : last_count ≤ n = last.1 in omega arith))
    (λ below. inl (let less : n < last_count = below.1 in omega arith)) (leb_tells last_count n)

-- where no count rises, a script ends with its own status, or memory is wanted
module _ (script : List ℕ) (before after : Outside) (tells : before.left ≡ Some script)
    (short : length script ≤ most_octets)
    (unraised : ¬ Rose before.read_faults after.read_faults)
    (unwritten : ¬ Rose before.write_faults after.write_faults) where
  own : (status : Status) → IfSome before.left
      (λ script. (length script ≤ most_octets) × (status_by script ≡ status))
      → (status ≡ status_by script) ⊎ (status ≡ Memory)
  own status is =
      let found : (length script ≤ most_octets) × (status_by script ≡ status) = rw tells at is in
      inl (sym found.1)

  completes_with : (status : Status) → Drilled before after status
      → (status ≡ status_by script) ⊎ (status ≡ Memory)
  completes_with Done drilled = own Done drilled.script
  completes_with BadLine drilled = own BadLine drilled.script
  completes_with BadSite drilled = own BadSite drilled.script
  completes_with Full drilled = own Full drilled.script
  completes_with Memory drilled = inr refl
  completes_with Usage drilled = absurd drilled.text
  completes_with ArchiveRefused drilled = absurd drilled.text
  completes_with DiskFault drilled = absurd drilled.text
  completes_with InputTooLong drilled =
      let long : most_octets < length script = rw tells at drilled.script in
      absurd (omega (arith, short, long))
  completes_with ReadFault drilled =
      absurd (unraised (subst (Rose before.read_faults) (sym drilled.reads)
      (rose_up before.read_faults)))
  completes_with WriteFault drilled =
      absurd (unwritten (subst (Rose before.write_faults) (sym drilled.writes)
      (rose_up before.write_faults)))

pub completes : (before after : Outside) (status : Status) → Drilled before after status
    → Completes before after status
completes before after status drilled = by_input before.left refl
  where
    by_input : (left : Option (List ℕ)) → before.left ≡ left
        → IfSome left (λ script. length script ≤ most_octets
        → ¬ Rose before.read_faults after.read_faults
        → ¬ Rose before.write_faults after.write_faults
        → (status ≡ status_by script) ⊎ (status ≡ Memory))
    by_input None tells = tt
    by_input (Some script) tells = λ short unraised unwritten.
        completes_with script before after tells short unraised unwritten status drilled
