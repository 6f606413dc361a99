-- The sentence of each kind of row, and its cells.
use Rattle.std.specs.Prelude.{ℕ, ◌==◌, Bool, true, false, not, nat_lt, if◌then◌else◌, List, [], ◌∷◌, Option, Some, None, codes, length}
use Rattle.show_rows.specs.declared.row.Form.{Form}
use Rattle.show_rows.specs.Rows.{number_field, told}
use Rattle.show_impact.specs.declared.forms.TheConstants.{ALONE, ALONE_MOVED, COLUMNS, KEYED, KEYED_MOVED, PLAIN, PLAIN_MOVED, VALUED, VALUED_MOVED, WAITING, WAITING_MOVED}
use Rattle.show_impact.specs.declared.forms.Wording.{Wording}
use Rattle.show_impact.specs.declared.row.Impact.{Impact}
use Rattle.show_impact.specs.declared.told.Fate.{Fate}
use Rattle.show_impact.specs.declared.told.Told.{Told}
use Rattle.show_impact.specs.Told.{fate_word}

-- whether the main has its budget by a later tick of its windows than before, or by a sooner one
abbrev pub word_between : ℕ → ℕ → List ℕ
word_between before now = if nat_lt before now then codes "later" else (if nat_lt now before then codes "sooner" else [])

abbrev pub when_word : Option ℕ → Option ℕ → List ℕ
when_word (Some before) (Some now) = word_between before now
when_word _ _ = []

abbrev pub key_wording : Bool → Bool → Bool → Wording
key_wording false valued alone = Wording.Plain
key_wording true false alone = Wording.Keyed
key_wording true true false = Wording.Valued
key_wording true true true = Wording.Alone

abbrev pub wording_of : Bool → Bool → Bool → Bool → Wording
wording_of true keyed valued alone = Wording.Waiting
wording_of false keyed valued alone = key_wording keyed valued alone

abbrev pub sentence_of : Bool → Wording → List ℕ
sentence_of false Wording.Plain = PLAIN.now
sentence_of false Wording.Keyed = KEYED.now
sentence_of false Wording.Valued = VALUED.now
sentence_of false Wording.Alone = ALONE.now
sentence_of false Wording.Waiting = WAITING.now
sentence_of true Wording.Plain = PLAIN_MOVED.now
sentence_of true Wording.Keyed = KEYED_MOVED.now
sentence_of true Wording.Valued = VALUED_MOVED.now
sentence_of true Wording.Alone = ALONE_MOVED.now
sentence_of true Wording.Waiting = WAITING_MOVED.now

abbrev pub is_alone : Fate → Bool
is_alone (Fate.Is Impact.PeriodAlone) = true
is_alone _ = false

abbrev pub is_some : Option ℕ → Bool
is_some None = false
is_some (Some n) = true

-- the sentence tells what is known of the windows, the key, the number that changed, and by when its main is done, where there is
-- such a thing
abbrev pub sentence : List ℕ → List ℕ → List ℕ → Told → List ℕ
sentence waits key when t =
    sentence_of (not (length when == 0)) (wording_of (not (length waits == 0)) (not (length key == 0)) (is_some t.before) (is_alone t.fate))

-- what is told of the process of this name, and of its windows, by this key
abbrev pub told_text : Form → List ℕ → List ℕ → List ℕ → Told → List ℕ
told_text form name waits key t =
    let when = when_word t.done_before t.done_now in
    told form COLUMNS.now (sentence waits key when t)
    (name ∷ fate_word t.fate ∷ waits ∷ key ∷ number_field t.before ∷ number_field t.now ∷ number_field t.done_before ∷ number_field t.done_now ∷ when ∷ [])
