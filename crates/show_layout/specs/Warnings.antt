-- What is told of all that a configuration allows and can't be meant.
use Rattle.std.specs.Prelude.{ℕ, List, [], ◌∷◌, ◌++◌, length, flat_map, codes, decimal}
use Rattle.dk_config.specs.Configuration.{Configuration}
use Rattle.dk_config.specs.Windows.{budget, ceiling, longest_hold, process_name, slots}
use Rattle.dk_warnings.specs.declared.warning.Warning.{Warning}
use Rattle.dk_warnings.specs.declared.warning.Warning.TheVariants as warning
use Rattle.dk_warnings.specs.Found.{warnings}
use Rattle.show_rows.specs.declared.row.Form.{Form}
use Rattle.show_rows.specs.Rows.{head_told, note_told, told}
use Rattle.show_layout.specs.declared.allowed.TheConstants.{COLUMNS, COUNT, COUNTED, FAST_CEILING, LONG_HOLD, NO_CHILD, NO_SPARE, OWN_MUTEX, SHORT_BODY}
use Rattle.show_layout.specs.Margins.{mutex_name}

-- the row by its name, the number that can't be meant, and why
abbrev pub sentence_of : Warning → List ℕ
sentence_of (warning.NoChild p) = NO_CHILD.now
sentence_of (warning.ShortBody p body) = SHORT_BODY.now
sentence_of (warning.NoSpare p level) = NO_SPARE.now
sentence_of (warning.FastCeiling m level) = FAST_CEILING.now
sentence_of (warning.OwnMutex m p) = OWN_MUTEX.now
sentence_of (warning.LongHold m p room) = LONG_HOLD.now

abbrev pub row_of : Configuration → Warning → List (List ℕ)
row_of c (warning.NoChild p) = codes "no_child" ∷ process_name c p ∷ [] ∷ [] ∷ decimal (slots c p) ∷ decimal (budget c p)
    ∷ [] ∷ [] ∷ [] ∷ [] ∷ [] ∷ []
row_of c (warning.ShortBody p body) = codes "short_body" ∷ process_name c p ∷ [] ∷ [] ∷ [] ∷ decimal (budget c p)
    ∷ decimal body ∷ decimal c.costs.call ∷ [] ∷ [] ∷ [] ∷ []
row_of c (warning.NoSpare p level) = codes "no_spare" ∷ process_name c p ∷ [] ∷ decimal level ∷ [] ∷ [] ∷ [] ∷ [] ∷ []
    ∷ [] ∷ [] ∷ []
row_of c (warning.FastCeiling m level) = codes "fast_ceiling" ∷ [] ∷ mutex_name c m ∷ decimal level ∷ [] ∷ [] ∷ [] ∷ []
    ∷ decimal (ceiling c m) ∷ [] ∷ [] ∷ []
row_of c (warning.OwnMutex m p) = codes "own_mutex" ∷ process_name c p ∷ mutex_name c m ∷ [] ∷ [] ∷ [] ∷ [] ∷ [] ∷ []
    ∷ [] ∷ [] ∷ []
row_of c (warning.LongHold m p room) = codes "long_hold" ∷ process_name c p ∷ mutex_name c m ∷ [] ∷ [] ∷ [] ∷ [] ∷ []
    ∷ [] ∷ decimal (longest_hold c m) ∷ decimal room ∷ []

abbrev pub warning_told : Form → Configuration → Warning → List ℕ
warning_told form c w = told form COLUMNS.now (sentence_of w) (row_of c w)

-- each warning, in their order, and how many they are, for which a table has no line
abbrev pub warnings_of : Form → Configuration → List ℕ
warnings_of form c =
    let found = warnings c in
    head_told form COLUMNS.now
    ++ (flat_map (warning_told form c) found ++ note_told form COUNT.now COUNTED.now (decimal (length found) ∷ []))
