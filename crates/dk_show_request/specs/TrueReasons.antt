-- What each reason says of the words.
use Rattle.std.specs.Prelude.{ℕ, ◌≡◌, ◌<◌, ◌≤◌, ◌+◌, ◌-◌, ◌⊎◌, false, true, drop, filter, length, slice_get, List, [], ◌∷◌, ◌++◌, Some, None}
use Rattle.std.specs.List.{list_any}
use Rattle.dk_config.specs.declared.TheConstants.{MAX_PROCESSES}
use Rattle.std.specs.Str.{bytes_eq}
use Rattle.dk_show_request.specs.Allotments.{name_in, ticks_behind}
use Rattle.dk_show_request.specs.Forms.{Form, form_named, takes_several, takes_ticks}
use Rattle.dk_show_request.specs.Numbers.{percent_in, ticks_in}
use Rattle.dk_show_request.specs.Reasons.{Reason, is_control, reason, wrong_text}
use Rattle.dk_show_request.specs.Usage.{flags_text}
use Rattle.dk_show_request.specs.Words.{arguments, dashed, is_flag, is_mark, is_option, is_plain_word}

abbrev pub StandsIn : List (List ℕ) → List ℕ → Type 0
StandsIn ws w = (i : ℕ) × (slice_get ws i ≡ Some w)

-- so many words leave out the argument of this name, a needed one, or an optional one where others of these stand
abbrev pub LeavesOut : Form → ℕ → List ℕ → Type 0
LeavesOut f n name = (slice_get f.needed n ≡ Some name)
    ⊎ ((length f.needed < n) × (slice_get f.optional (n - length f.needed) ≡ Some name))

-- the words are ticks, the first not below the second
abbrev pub AreNotBelow : List ℕ → List ℕ → Type 0
AreNotBelow from to = (m : ℕ) × (n : ℕ) × (ticks_in from ≡ Some m) × (ticks_in to ≡ Some n) × (n ≤ m)

-- of the words that stand for arguments, and all
abbrev pub HoldsOf : Form → List (List ℕ) → List (List ℕ) → Reason → Type 0
HoldsOf f ps ws (Reason.no_flag w) = StandsIn ws w × (is_plain_word w ≡ false) × (is_mark f w ≡ false)
HoldsOf f ps ws Reason.empty = StandsIn ws []
HoldsOf f ps ws (Reason.missing name) = LeavesOut f (length ps) name
HoldsOf f ps ws (Reason.surplus w) = (takes_several f.kind ≡ false) × (slice_get (drop (length f.needed) ps) (length f.optional) ≡ Some w)
HoldsOf f ps ws (Reason.no_ticks w) = (takes_ticks f.kind ≡ true) × StandsIn (drop 1 ps) w × (ticks_in w ≡ None)
HoldsOf f ps ws (Reason.disorder from to) = (takes_ticks f.kind ≡ true) × (drop 1 ps ≡ from ∷ to ∷ []) × AreNotBelow from to
HoldsOf f ps ws Reason.many_names = MAX_PROCESSES < length (drop 1 ps)
HoldsOf f ps ws (Reason.no_allotment w) = StandsIn (drop 1 ps) w × (ticks_behind w ≡ None)
HoldsOf f ps ws (Reason.allotted_again name) = 1 < length (filter (λ w. bytes_eq name (name_in w)) (drop 1 ps))
HoldsOf f ps ws (Reason.no_command w) = StandsIn ps w × (form_named w ≡ None)
HoldsOf f ps ws (Reason.no_percent w) = StandsIn ws w × (percent_in w ≡ None)
HoldsOf f ps ws (Reason.repeated marks) =
    ((marks ≡ flags_text f.flags) × (1 < length (filter (is_flag f) ws)))
    ⊎ ((marks ≡ dashed f.option) × (1 < length (filter (is_option f) ws)))
HoldsOf f ps ws (Reason.bare w) = (slice_get ws (length ws - 1) ≡ Some w) × (is_option f w ≡ true)
HoldsOf f ps ws Reason.other = Unit {0}

-- what the reason says holds of the words behind the command word
abbrev pub Holds : Form → List (List ℕ) → Reason → Type 0
Holds f ws r = HoldsOf f (arguments f ws) ws r

abbrev pub ReasonsHold : Type 0
ReasonsHold = (f : Form) (ws : List (List ℕ)) → Holds f ws (reason f ws)

-- a line: the line feed at its end is its only control character
abbrev pub IsLine : List ℕ → Type 0
IsLine bytes = (text : List ℕ) × (bytes ≡ text ++ (10 ∷ [])) × (list_any is_control text ≡ false)

abbrev pub AreLines : Type 0
AreLines = (words : List (List ℕ)) → IsLine (wrong_text words)
