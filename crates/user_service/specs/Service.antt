-- What the words of a command line come to. This product's own.
use Rattle.std.specs.Prelude.{◌≡◌, ◌⊎◌, ℕ, ◌<◌, Bool, Option, Some, None, IfSome, Result, Ok, Err, List}
use Rattle.std.specs.Prelude.{length, codes}
use Rattle.cds_time.specs.declared.cds.Cds.{Cds}
use Rattle.link_model.specs.declared.call.Call.{Call}
use Rattle.octet_core.specs.Fault.{Rose}
use Rattle.octet_core.specs.Written.{Gains}
use Rattle.sle_numbers.specs.declared.service_type.ServiceType.{ServiceType}
use Rattle.user_show.specs.Closing.{text_of, ending_of, EndsOwn, IsOfShow}
use Rattle.user_show.specs.Ending.{EndsWith, ReadRose, WriteRose}
use Rattle.user_show.specs.declared.ending.Ending.{Ending}
use Rattle.user_show.specs.declared.ending.Ending.TheVariants as ending
use Rattle.user_talk.specs.Closed.{TalkedTo}
use Rattle.user_talk.specs.Running.{world}
use Rattle.user_task.specs.declared.cltus.CltuLine.{CltuLine}
use Rattle.user_task.specs.declared.task.Task.{Task}
use Rattle.user_words.specs.declared.asked.Asked.{Asked}
use Rattle.user_words.specs.declared.identity.Identity.{Identity}
use Rattle.user_words.specs.declared.plan.Plan.{Plan}
use Rattle.user_words.specs.declared.plan.Plan.TheVariants.{Show, Talk}
use Rattle.whole_input.specs.declared.reading.TheConstants.{INPUT_OCTETS}
use Rattle.user_service.specs.Input.{NamesFor}
use Rattle.user_service.specs.Sending.{task_of}
use Rattle.user_service.specs.Streams.{Streams}
use Rattle.user_service.specs.Telling.{TellsWhy}
use Rattle.user_service.specs.declared.kit.UserKit.{UserKit}
use Rattle.user_service.specs.declared.unsent.Unsent.{Unsent}
use Rattle.user_service.specs.declared.unsent.Unsent.TheVariants.{ReadFault}

module _ {I O L C E : Type 0} (left : I → Option (List ℕ)) (input_faults : I → ℕ)
    (written : O → Option (List ℕ)) (output_faults : O → ℕ) (calls : L → Option (List Call))
    (link_faults : L → ℕ) (readings : C → Option (List Cds)) (asks : E → Option (List Bool)) where
  -- nothing was read, and no call of the link, the clock or the end was made
  pub record LeftAlone (old new : UserKit I O L C E) : Type 0 where
    pub input : new.input ≡ old.input
    pub link : new.link ≡ old.link
    pub clock : new.clock ≡ old.clock
    pub end : new.end ≡ old.end

  -- One line was written, and nothing else was done.
  pub record TellsAlone (line : List ℕ) (own ended : Ending) (old new : UserKit I O L C E)
      : Type 0 where
    pub closes : EndsWith (written old.output) (written new.output) (output_faults old.output)
        (output_faults new.output) line own ended
    pub alone : LeftAlone old new

  -- The input was printed, and there was no talk.
  pub record Shows (service : ServiceType) (ended : Ending) (old new : UserKit I O L C E)
      : Type 0 where
    pub text : EndsOwn ended → IfSome (left old.input) (λ octets.
        Gains (written old.output) (written new.output) (text_of service octets))
    pub own : EndsOwn ended → IfSome (left old.input) (λ octets.
        ended ≡ ending_of service octets)
    pub long : ended ≡ ending.InputTooLong → IfSome (left old.input) (λ octets.
        INPUT_OCTETS < length octets)
    pub read : ReadRose ended (input_faults old.input) (input_faults new.input)
    pub write : WriteRose ended (output_faults old.output) (output_faults new.output)
    pub only : IsOfShow ended
    pub link : new.link ≡ old.link
    pub clock : new.clock ≡ old.clock
    pub end : new.end ≡ old.end

  -- A task was talked over, over this link.
  pub record Talks (task : Task) (most : ℕ) (ended : Ending) (link : L)
      (old new : UserKit I O L C E) : Type 0 where
    pub behind : L
    pub link_is : new.link ≡ Some behind
    pub talked : TalkedTo calls link_faults readings asks written output_faults task most ended
        (world link old.clock old.end old.output) (world behind new.clock new.end new.output)
    pub streams : Streams calls asks written task most ended (world link old.clock old.end
        old.output)
        (world behind new.clock new.end new.output)

  -- Nothing was said over the link, for this reason.
  pub record SendsNone (why : Unsent) (ended : Ending) (link : L) (old new : UserKit I O L C E)
      : Type 0 where
    pub link_is : new.link ≡ Some link
    pub clock : new.clock ≡ old.clock
    pub end : new.end ≡ old.end
    pub told : TellsWhy (written old.output) (written new.output) (output_faults old.output)
        (output_faults new.output) why ended

  abbrev pub SendsBy : Result (List CltuLine) Unsent → Identity → Asked → ℕ → Ending → L
      → UserKit I O L C E → UserKit I O L C E → Type 0
  SendsBy (Ok cltus) identity asked most ended link old new =
      Talks (task_of old.draw identity asked cltus) most ended link old new
  SendsBy (Err why) identity asked most ended link old new = SendsNone why ended link old new

  -- What is asked for was sent over a link, with the CLTUs that the input names.
  pub record Sends (identity : Identity) (asked : Asked) (most : ℕ) (ended : Ending) (link : L)
      (old new : UserKit I O L C E) : Type 0 where
    pub named : Result (List CltuLine) Unsent
    pub names : NamesFor asked (left old.input) named
    pub rose : named ≡ Err ReadFault → Rose (input_faults old.input) (input_faults new.input)
    pub kept : (named ≡ Err ReadFault) ⊎ (input_faults new.input ≡ input_faults old.input)
    pub sends : SendsBy named identity asked most ended link old new

  -- without a link, that is the first that is told
  abbrev pub Converses : Option L → Identity → Asked → ℕ → Ending → UserKit I O L C E
      → UserKit I O L C E → Type 0
  Converses None identity asked most ended old new =
      TellsAlone (codes "link fault\n") ending.LinkFault ended old new
  Converses (Some link) identity asked most ended old new =
      Sends identity asked most ended link old new

  abbrev pub Serves : Option Plan → Ending → UserKit I O L C E → UserKit I O L C E → Type 0
  Serves None ended old new = TellsAlone (codes "usage\n") ending.Usage ended old new
  Serves (Some (Show service)) ended old new = Shows service ended old new
  Serves (Some (Talk port identity asked most)) ended old new =
      Converses old.link identity asked most ended old new

  -- What is asked for was done; or memory was refused before, and nothing was.
  abbrev pub Served : Option Plan → Ending → UserKit I O L C E → UserKit I O L C E → Type 0
  Served plan ended old new =
      Serves plan ended old new ⊎ ((ended ≡ ending.Memory) × (new ≡ old))
