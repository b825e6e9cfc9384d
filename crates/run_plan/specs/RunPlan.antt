-- What the words behind `run` ask for. This product's own.
use Rattle.std.specs.Prelude.{◌≡◌, ℕ, ◌≤◌, ◌&&◌, nat_le, if◌then◌else◌, Option, Some, None, List, []}
use Rattle.std.specs.Prelude.{◌∷◌, length, map}
use denote.Ref.{Bor}
use Rattle.words.specs.Number.{number_read}
use Rattle.run_plan.specs.declared.plan.RunPlan.{RunPlan}

-- a value that was found is the one that a word says, and none was where it says none
abbrev pub Finds : {A X : Type 0} → (A → X) → Option A → Option X → Type 0
Finds seen (Some value) said = said ≡ Some (seen value)
Finds seen None said = said ≡ None

-- 10 to 2^40
unfoldable pub turns_read : List ℕ → Option ℕ
turns_read word = number_read 10 1099511627776 word

unfoldable pub links_read : List ℕ → Option ℕ
links_read word = number_read 1 65536 word

unfoldable pub port_read : List ℕ → Option ℕ
port_read word = number_read 1 65535 word

-- a port before others
abbrev pub port_and : Option ℕ → Option (List ℕ) → Option (List ℕ)
port_and (Some port) (Some ports) = Some (port ∷ ports)
port_and _ _ = None

-- each word is a port
abbrev pub ports_read : List (List ℕ) → Option (List ℕ)
ports_read [] = Some []
ports_read (word ∷ words) = port_and (port_read word) (ports_read words)

-- the plan of these numbers, if each is one
abbrev pub plan_with : Option ℕ → Option ℕ → List ℕ → Option ℕ → List ℕ → Option (List ℕ)
    → Option RunPlan
plan_with (Some turns) (Some links) path (Some feed) antenna (Some ports) = Some (record {
  turns = turns;
  links = links;
  path = path;
  feed = feed;
  antenna = antenna;
  ports = ports;
})
plan_with _ _ _ _ _ _ = None

-- turns, links, the archive's path, the port of the source of entries, the path of the CLTUs' file,
-- and 1 to 16 ports of doors
abbrev pub plan_of : List ℕ → List ℕ → List ℕ → List ℕ → List ℕ → List (List ℕ) → Option RunPlan
plan_of turns links path feed antenna ports =
    if nat_le 1 (length ports) && nat_le (length ports) 16
    then plan_with (turns_read turns) (links_read links) path (port_read feed) antenna
    (ports_read ports)
    else None

abbrev pub run_plan : List (List ℕ) → Option RunPlan
run_plan (turns ∷ links ∷ path ∷ feed ∷ antenna ∷ ports) =
    plan_of turns links path feed antenna ports
run_plan words = None

-- what words that are texts ask for
abbrev pub asked : List (Bor (List ℕ)) → Option RunPlan
asked words = run_plan (map (λ word. word.now) words)

-- the numbers of a plan are in their ranges
pub record IsInRange (plan : RunPlan) : Type 0 where
  pub turns : (10 ≤ plan.turns) × (plan.turns ≤ 1099511627776)
  pub links : (1 ≤ plan.links) × (plan.links ≤ 65536)
  pub doors : (1 ≤ length plan.ports) × (length plan.ports ≤ 16)
