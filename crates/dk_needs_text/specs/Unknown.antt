-- What needs tell of that the configuration hasn't got, as text.
use Rattle.std.specs.Prelude.{ℕ, List, [], ◌++◌, flat_map, length, slice_get, slice_index_or, codes, decimal}
use Rattle.std.specs.Option.{option_map_or}
use Rattle.dk_needs.specs.declared.needs.Need.{Need}
use Rattle.dk_needs.specs.declared.needs.What.{What}
use Rattle.dk_needs.specs.Keys.{key_name}
use Rattle.dk_needs_check.specs.declared.unknown.Unknown.{Unknown}

-- what it is, by the words of a configuration
abbrev pub thing_text : What → ℕ → List ℕ
thing_text (What.Deadline process within) place = codes "process " ++ process
thing_text (What.Chain names reaction age) place = codes "process " ++ slice_index_or names place []
thing_text (What.Jitter process begins whole) place = codes "process " ++ process
thing_text (What.ChainJitter names reaction) place = codes "process " ++ slice_index_or names place []
thing_text (What.Budget process budget) place = codes "process " ++ process
thing_text (What.Hold mutex hold) place = codes "mutex " ++ mutex
thing_text (What.Release level release) place = codes "level " ++ decimal level
thing_text (What.Spare level ticks) place = codes "level " ++ decimal level
thing_text (What.Slack process each within) place = codes "process " ++ process
thing_text (What.Always process) place = codes "process " ++ process
thing_text _ place = []

abbrev pub unknown_text : List ℕ → List ℕ → List ℕ → List ℕ
unknown_text id key thing = codes "needs: " ++ (id ++ (codes " " ++ (key ++ (codes ": there is no " ++ (thing ++ codes "\n")))))

unfoldable pub unknown_of_need : Need → Unknown → List ℕ
unknown_of_need need u = unknown_text need.id (key_name u.key) (thing_text need.what u.place)

abbrev pub unknown_line : List Need → Unknown → List ℕ
unknown_line needs u = option_map_or (λ need. unknown_of_need need u) (slice_get needs u.need) []

abbrev pub count_line : ℕ → List ℕ
count_line n = codes "faults " ++ (decimal n ++ codes "\n")

-- a line each, and how many they are
abbrev pub unknown_page : List Need → List Unknown → List ℕ
unknown_page needs found = flat_map (unknown_line needs) found ++ count_line (length found)
