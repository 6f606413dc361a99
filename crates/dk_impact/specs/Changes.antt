-- What a process sees change from one configuration to another, in order.
use Rattle.std.specs.Prelude.{ℕ, zero, suc, ◌≡◌, ◌==◌, Bool, true, false, if◌then◌else◌, List, [], ◌∷◌, ◌++◌, Option, Some, None}
use Rattle.std.specs.Option.{option_or}
use Rattle.dk_config.specs.declared.TheConstants.{MAX_MUTEXES}
use Rattle.dk_config.specs.Configuration.{Configuration}
use Rattle.dk_config.specs.Sums.{below, first_of}
use Rattle.dk_config.specs.Windows.{period, main_level, max_level, budget, memory, longest_hold}
use Rattle.dk_config.specs.Certification.{is_user}
use Rattle.dk_impact.specs.declared.change.Change.{Change}
use Rattle.dk_isa.specs.Calls.{HoldsNoCall}
use Rattle.dk_impact.specs.declared.change.Sight.{Sight}
use Rattle.dk_impact.specs.Impact.{SeesTheSame}

-- the change, where the numbers differ
abbrev pub differs : Change → ℕ → ℕ → Option Change
differs change old new = if old == new then None else Some change

abbrev pub cost_change : Configuration → Configuration → Option Change
cost_change c c' = option_or (differs Change.Switch c.costs.switch c'.costs.switch) (differs Change.Call c.costs.call c'.costs.call)

abbrev pub size_change : Configuration → ℕ → Configuration → ℕ → Option Change
size_change c p c' p' = option_or (differs Change.Budget (budget c p) (budget c' p')) (differs Change.Memory (memory c p) (memory c' p'))

abbrev pub row_change : Configuration → ℕ → Configuration → ℕ → Option Change
row_change c p c' p' =
    option_or (differs Change.Period (period c (main_level c p)) (period c' (main_level c' p'))) (size_change c p c' p')

-- the change of a mutex that the process may lock before, or after
abbrev pub use_of : Bool → Bool → ℕ → ℕ → ℕ → Option Change
use_of true true m old new = differs (Change.Hold m) old new
use_of false false m old new = None
use_of _ _ m old new = Some (Change.User m)

abbrev pub mutex_change : Configuration → ℕ → Configuration → ℕ → ℕ → Option Change
mutex_change c p c' p' m = use_of (is_user c m p) (is_user c' m p') m (longest_hold c m) (longest_hold c' m)

abbrev pub mutexes_change : Configuration → ℕ → Configuration → ℕ → Option Change
mutexes_change c p c' p' = first_of (mutex_change c p c' p') (below MAX_MUTEXES)

abbrev pub level_change : Configuration → ℕ → Configuration → ℕ → Option Change
level_change c p c' p' =
    option_or (differs Change.Levels (main_level c p) (main_level c' p')) (differs Change.Levels (max_level c p) (max_level c' p'))

-- what is seen of a change that only a program with some call sees
abbrev pub seen : Bool → Option Change → Option Change
seen true change = change
seen false change = None

abbrev pub use_change : Sight → Configuration → ℕ → Configuration → ℕ → Option Change
use_change s c p c' p' = option_or (seen s.locks (mutexes_change c p c' p')) (seen s.creates (level_change c p c' p'))

abbrev pub own_change : Sight → Configuration → ℕ → Configuration → ℕ → Option Change
own_change s c p c' p' = option_or (row_change c p c' p') (use_change s c p c' p')

-- the first of all: of the costs, its row, its mutexes by number, and the numbers of its levels
abbrev pub first_change : Sight → Configuration → ℕ → Configuration → ℕ → Option Change
first_change s c p c' p' = option_or (cost_change c c') (own_change s c p c' p')

-- whether the program holds the call
abbrev pub TellsCall : Bool → ℕ → List ℕ → Type 0
TellsCall true n program = ¬ HoldsNoCall n program
TellsCall false n program = HoldsNoCall n program

pub record IsSight (s : Sight) (program : List ℕ) : Type 0 where
  pub locks : TellsCall s.locks 5 program
  pub creates : TellsCall s.creates 3 program

-- the first thing that a process with this program sees change
pub record IsFirst (c : Configuration) (p : ℕ) (c' : Configuration) (p' : ℕ) (program : List ℕ) (change : Option Change) : Type 0 where
  pub sight : Sight
  pub is : IsSight sight program
  pub first : change ≡ first_change sight c p c' p'

-- none tells that it is so, any that it isn't
abbrev pub TellsOf : Type 0 → Option Change → Type 0
TellsOf Same None = Same
TellsOf Same (Some change) = ¬ Same

-- what the first change tells: none that the process sees the same, and any that it doesn't
abbrev pub Tells : Configuration → ℕ → Configuration → ℕ → List ℕ → Option Change → Type 0
Tells c p c' p' program change = TellsOf (SeesTheSame c p c' p' program) change

-- the first of all but its budget and the length of its windows
abbrev pub but_time_change : Sight → Configuration → ℕ → Configuration → ℕ → Option Change
but_time_change s c p c' p' =
    option_or (cost_change c c') (option_or (differs Change.Memory (memory c p) (memory c' p')) (use_change s c p c' p'))

-- all that it sees change, in that order
abbrev pub listed : Option Change → List Change
listed None = []
listed (Some change) = change ∷ []

abbrev pub cost_changes : Configuration → Configuration → List Change
cost_changes c c' = listed (differs Change.Switch c.costs.switch c'.costs.switch) ++ listed (differs Change.Call c.costs.call c'.costs.call)

abbrev pub row_changes : Configuration → ℕ → Configuration → ℕ → List Change
row_changes c p c' p' =
    listed (differs Change.Period (period c (main_level c p)) (period c' (main_level c' p')))
    ++ (listed (differs Change.Budget (budget c p) (budget c' p')) ++ listed (differs Change.Memory (memory c p) (memory c' p')))

-- of the mutexes with numbers below n
abbrev pub mutexes_below : Configuration → ℕ → Configuration → ℕ → ℕ → List Change
mutexes_below c p c' p' zero = []
mutexes_below c p c' p' (suc m) = mutexes_below c p c' p' m ++ listed (mutex_change c p c' p' m)

abbrev pub seen_all : Bool → List Change → List Change
seen_all true changes = changes
seen_all false changes = []

abbrev pub all_changes : Sight → Configuration → ℕ → Configuration → ℕ → List Change
all_changes s c p c' p' =
    cost_changes c c'
    ++ (row_changes c p c' p' ++ (seen_all s.locks (mutexes_below c p c' p' MAX_MUTEXES) ++ listed (seen s.creates (level_change c p c' p'))))

-- all that a process with this program sees change
pub record AreAll (c : Configuration) (p : ℕ) (c' : Configuration) (p' : ℕ) (program : List ℕ) (changes : List Change) : Type 0 where
  pub sight : Sight
  pub is : IsSight sight program
  pub all : changes ≡ all_changes sight c p c' p'
