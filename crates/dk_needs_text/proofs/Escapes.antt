-- No word of a test case has a byte with which markup begins or ends.
use Rattle.std.proofs.Common.{ℕ, zero, suc, ◌≡◌, ◌∙◌, ◌+◌, ◌*◌, ◌<◌, ◌++◌, [], ◌∷◌, List, length, ap, refl, arith, codes}
use Rattle.std.specs.Fmt.{digit_glyph, digits, digits_onto}
use Rattle.std.specs.Prelude.{Bool, true, false, ◌&&◌, ◌==◌, ◌/◌, ◌%◌, nat_lt, if◌then◌else◌, decimal, Option, Some, None}
use Rattle.std.specs.List.{list_all}
use Rattle.std.proofs.lemmas.Bool.{and_parts}
use Rattle.std.proofs.lemmas.Bool.Decides.{nat_tests}
use Rattle.dk_config.specs.Rules.{is_name, is_word}
use Rattle.dk_needs.specs.declared.fault.Section.{Section}
use Rattle.dk_needs.specs.declared.needs.Need.{Need}
use Rattle.dk_needs.specs.declared.needs.Tick.{Tick}
use Rattle.dk_needs.specs.declared.needs.Unit.{Unit}
use Rattle.dk_needs.specs.declared.needs.What.{What}
use Rattle.dk_needs.specs.Fit.{HasNames, IsFit}
use Rattle.dk_needs.specs.Fitting.{is_id, is_id_byte}
use Rattle.dk_needs.specs.Keys.{key_name, section_key}
use Rattle.dk_needs_check.specs.declared.row.Answer.{Answer}
use Rattle.dk_needs_check.specs.declared.row.Audit.{Audit}
use Rattle.dk_needs_check.specs.declared.row.Bound.{Bound}
use Rattle.dk_needs_check.specs.declared.row.Measure.{Measure}
use Rattle.dk_needs_check.specs.declared.row.Reason.{Reason}
use Rattle.dk_needs_check.specs.declared.row.Repeating.{Repeating}
use Rattle.dk_needs_check.specs.declared.row.Waiting.{Waiting}
use Rattle.dk_needs_check.specs.Bounds.{is_met, is_upper}
use Rattle.dk_needs_text.specs.Csv.{measure_field, measure_word}
use Rattle.dk_needs_text.specs.Escapes.{NeedNoEscapes, NeedsNoEscape, is_unmarked}
use Rattle.dk_needs_text.specs.Junit.{behind_space}
use Rattle.dk_needs_text.specs.Names.{AreNamed, name_at}
use Rattle.dk_needs_text.specs.Text.{answer_text, audit_text, before_space, between_text, bound_text, condition_text, is_time, measure_words, number_text, reason_words, repeating_text, subject_of, time_text, times_of, times_text, unit_word, waiting_text}

both : (s t : List ℕ) → NeedsNoEscape s → NeedsNoEscape t → NeedsNoEscape (s ++ t)
both [] t one two = two
both (b ∷ s) t one two =
    let parts = and_parts (is_unmarked b) (list_all is_unmarked s) one in
    ap (λ x. x && list_all is_unmarked (s ++ t)) parts.0 ∙ both s t parts.1 two

word_plain : (b : ℕ) → is_word b ≡ true → is_unmarked b ≡ true
word_plain b is = grind (arith, nat_tests)

id_byte_plain : (b : ℕ) → is_id_byte b ≡ true → is_unmarked b ≡ true
id_byte_plain b is = grind (arith, nat_tests)

words_plain : (s : List ℕ) → list_all is_word s ≡ true → NeedsNoEscape s
words_plain [] are = refl
words_plain (b ∷ s) are =
    let parts = and_parts (is_word b) (list_all is_word s) are in
    ap (λ x. x && list_all is_unmarked s) (word_plain b parts.0) ∙ words_plain s parts.1

id_bytes_plain : (s : List ℕ) → list_all is_id_byte s ≡ true → NeedsNoEscape s
id_bytes_plain [] are = refl
id_bytes_plain (b ∷ s) are =
    let parts = and_parts (is_id_byte b) (list_all is_id_byte s) are in
    ap (λ x. x && list_all is_unmarked s) (id_byte_plain b parts.0) ∙ id_bytes_plain s parts.1

name_plain : (name : List ℕ) → is_name name ≡ true → NeedsNoEscape name
name_plain name is = words_plain name (and_parts _ (list_all is_word name) is).1

id_plain : (id : List ℕ) → is_id id ≡ true → NeedsNoEscape id
id_plain id is = id_bytes_plain id (and_parts _ (list_all is_id_byte id) is).1

-- ---- the digits of any number

glyph_plain : (b : Bool) (d : ℕ) → d < 10 → is_unmarked (if b then 48 + d else 87 + d) ≡ true
glyph_plain true d small = grind (arith, nat_tests)
glyph_plain false d small = grind (arith, nat_tests)

either_plain : (b : Bool) (s t : List ℕ) → NeedsNoEscape s → NeedsNoEscape t → NeedsNoEscape (if b then s else t)
either_plain true s t one two = one
either_plain false s t one two = two

onto_plain : (k n : ℕ) (acc : List ℕ) → NeedsNoEscape acc → NeedsNoEscape (digits_onto k 10 false n acc)
onto_plain zero n acc h = h
onto_plain (suc k) n acc h =
    let d = digit_glyph false (n % 10) in
    let more : NeedsNoEscape (d ∷ acc) = ap (λ x. x && list_all is_unmarked acc) (glyph_plain (nat_lt (n % 10) 10) (n % 10) (omega arith)) ∙ h in
    either_plain (n / 10 == 0) (d ∷ acc) (digits_onto k 10 false (n / 10) (d ∷ acc)) more (onto_plain k (n / 10) (d ∷ acc) more)

digits_plain : (n : ℕ) → NeedsNoEscape (decimal n)
unfolding digits
digits_plain n = onto_plain 64 n [] refl

-- ---- the parts of a message

number_plain : (n : Option ℕ) → NeedsNoEscape (number_text n)
number_plain None = refl
number_plain (Some n) = digits_plain n

between_plain : (upper : Bool) → NeedsNoEscape (between_text upper)
between_plain true = refl
between_plain false = refl

measure_plain : (m : Measure) → NeedsNoEscape (measure_words m)
measure_plain Measure.Done = refl
measure_plain Measure.Reaction = refl
measure_plain Measure.Age = refl
measure_plain Measure.BeginsJitter = refl
measure_plain Measure.DoneJitter = refl
measure_plain Measure.ReactionJitter = refl
measure_plain Measure.Budget = refl
measure_plain Measure.Hold = refl
measure_plain Measure.Release = refl
measure_plain Measure.Growth = refl
measure_plain Measure.Spare = refl
measure_plain Measure.Slack = refl
measure_plain Measure.SlackBy = refl
measure_plain Measure.Overruns = refl
measure_plain Measure.Refused = refl
measure_plain Measure.Faults = refl

bound_plain : (b : Bound) → NeedsNoEscape (bound_text b)
bound_plain b =
    let upper = is_upper b.measure in
    let asked = between_text upper ++ decimal b.asked in
    let number = number_text b.number ++ asked in
    both (measure_words b.measure) (codes " " ++ number) (measure_plain b.measure)
    (both (codes " ") number refl
    (both (number_text b.number) asked (number_plain b.number)
    (both (between_text upper) (decimal b.asked) (between_plain upper) (digits_plain b.asked))))

unit_plain : (u : Unit) → NeedsNoEscape (unit_word u)
unit_plain Unit.Nanoseconds = refl
unit_plain Unit.Microseconds = refl
unit_plain Unit.Milliseconds = refl
unit_plain Unit.Seconds = refl

time_plain : (t : Tick) (n : Option ℕ) → NeedsNoEscape (time_text t n)
time_plain t None = refl
time_plain t (Some n) = both (decimal (n * t.amount)) (unit_word t.unit) (digits_plain (n * t.amount)) (unit_plain t.unit)

times_plain : (t : Tick) (b : Bound) → NeedsNoEscape (times_of t b)
times_plain t b =
    let upper = is_upper b.measure in
    let asked = between_text upper ++ time_text t (Some b.asked) in
    both (codes ", ") (time_text t b.number ++ asked) refl
    (both (time_text t b.number) asked (time_plain t b.number)
    (both (between_text upper) (time_text t (Some b.asked)) (between_plain upper) (time_plain t (Some b.asked))))

all_times_plain : (tick : Option Tick) (b : Bound) → NeedsNoEscape (times_text tick b)
all_times_plain None b = refl
all_times_plain (Some t) b = either_plain (is_time b.measure) (times_of t b) [] (times_plain t b) refl

subject_plain : (w : What) → HasNames w → NeedsNoEscape (subject_of w)
subject_plain (What.Deadline name within) is = name_plain name is
subject_plain (What.Chain names reaction age) is = refl
subject_plain (What.Jitter name begins whole) is = name_plain name is
subject_plain (What.ChainJitter names reaction) is = refl
subject_plain (What.Budget name budget) is = name_plain name is
subject_plain (What.Hold name hold) is = name_plain name is
subject_plain (What.Release level release) is = both (codes "level ") (decimal level) refl (digits_plain level)
subject_plain (What.Growth percent) is = refl
subject_plain (What.Spare level ticks) is = both (codes "level ") (decimal level) refl (digits_plain level)
subject_plain (What.Slack name each within) is = name_plain name is
subject_plain (What.Always name) is = name_plain name is
subject_plain (What.Run overruns refused faults forever) is = refl

before_plain : (word : List ℕ) → NeedsNoEscape word → NeedsNoEscape (before_space word)
before_plain word is = either_plain (length word == 0) [] (word ++ codes " ") refl (both word (codes " ") is refl)

audit_plain : (a : Audit) → NeedsNoEscape (audit_text a)
audit_plain (Audit.Passed n) = both (codes "audit passed ") (decimal n) refl (digits_plain n)
audit_plain (Audit.Label n) =
    both (codes "audit tick ") (decimal n ++ codes " label") refl (both (decimal n) (codes " label") (digits_plain n) refl)
audit_plain (Audit.Event n) =
    both (codes "audit tick ") (decimal n ++ codes " event") refl (both (decimal n) (codes " event") (digits_plain n) refl)

reason_plain : (r : Reason) → NeedsNoEscape (reason_words r)
reason_plain Reason.NotTested = refl
reason_plain Reason.NoLedger = refl

waiting_plain : (w : Waiting) → NeedsNoEscape (waiting_text w)
waiting_plain Waiting.Always = refl
waiting_plain (Waiting.NotFrom n) = both (codes "no wait in the window from ") (decimal n) refl (digits_plain n)
waiting_plain (Waiting.NotWithin n) = both (codes "not within ") (decimal n) refl (digits_plain n)
waiting_plain Waiting.ReadsTick = refl
waiting_plain Waiting.HasThreads = refl
waiting_plain Waiting.HasSlack = refl

at_plain : (names : List (List ℕ)) (p : ℕ) → AreNamed names → NeedsNoEscape (name_at names p)
at_plain [] p are = refl
at_plain (name ∷ names) zero are = name_plain name (and_parts (is_name name) (list_all is_name names) are).0
at_plain (name ∷ names) (suc p) are = at_plain names p (and_parts (is_name name) (list_all is_name names) are).1

repeating_plain : (names : List (List ℕ)) (r : Repeating) → AreNamed names → NeedsNoEscape (repeating_text names r)
repeating_plain names (Repeating.Every start every) are =
    both (codes "repeats from ") (decimal start ++ (codes " every " ++ decimal every)) refl
    (both (decimal start) (codes " every " ++ decimal every) (digits_plain start)
    (both (codes " every ") (decimal every) refl (digits_plain every)))
repeating_plain names (Repeating.NotWithin n) are = both (codes "repeats not within ") (decimal n) refl (digits_plain n)
repeating_plain names (Repeating.ReadsTick p) are =
    both (codes "repeats unknown ") (name_at names p ++ codes " reads the tick") refl
    (both (name_at names p) (codes " reads the tick") (at_plain names p are) refl)

answer_plain : (names : List (List ℕ)) (tick : Option Tick) (w : What) (a : Answer) → AreNamed names → HasNames w
    → NeedsNoEscape (answer_text names tick w a)
answer_plain names tick w (Answer.Tested b) are is =
    both (before_space (subject_of w)) (bound_text b ++ times_text tick b) (before_plain (subject_of w) (subject_plain w is))
    (both (bound_text b) (times_text tick b) (bound_plain b) (all_times_plain tick b))
answer_plain names tick w (Answer.IfKept b) are is =
    both (before_space (subject_of w) ++ (bound_text b ++ times_text tick b)) (condition_text b)
    (both (before_space (subject_of w)) (bound_text b ++ times_text tick b) (before_plain (subject_of w) (subject_plain w is))
    (both (bound_text b) (times_text tick b) (bound_plain b) (all_times_plain tick b)))
    (either_plain (is_met b) (codes " if all keep to their slack") [] refl refl)
answer_plain names tick w Answer.NoRight are is =
    both (before_space (subject_of w)) (codes "may not ask for slack") (before_plain (subject_of w) (subject_plain w is)) refl
answer_plain names tick w (Answer.Audited a) are is = audit_plain a
answer_plain names tick w (Answer.Waits x) are is =
    both (before_space (subject_of w)) (waiting_text x) (before_plain (subject_of w) (subject_plain w is)) (waiting_plain x)
answer_plain names tick w (Answer.Repeats r) are is = repeating_plain names r are
answer_plain names tick w (Answer.Open r) are is = reason_plain r

-- ---- the other attributes

section_plain : (s : Section) → NeedsNoEscape (key_name (section_key s))
section_plain Section.Deadline = refl
section_plain Section.Chain = refl
section_plain Section.Jitter = refl
section_plain Section.Room = refl
section_plain Section.Growth = refl
section_plain Section.Spare = refl
section_plain Section.Slack = refl
section_plain Section.Always = refl
section_plain Section.Run = refl

tested_plain : (m : Measure) → NeedsNoEscape (behind_space (measure_word m))
tested_plain Measure.Done = refl
tested_plain Measure.Reaction = refl
tested_plain Measure.Age = refl
tested_plain Measure.BeginsJitter = refl
tested_plain Measure.DoneJitter = refl
tested_plain Measure.ReactionJitter = refl
tested_plain Measure.Budget = refl
tested_plain Measure.Hold = refl
tested_plain Measure.Release = refl
tested_plain Measure.Growth = refl
tested_plain Measure.Spare = refl
tested_plain Measure.Slack = refl
tested_plain Measure.SlackBy = refl
tested_plain Measure.Overruns = refl
tested_plain Measure.Refused = refl
tested_plain Measure.Faults = refl

field_plain : (a : Answer) → NeedsNoEscape (behind_space (measure_field a))
field_plain (Answer.Tested b) = tested_plain b.measure
field_plain (Answer.IfKept b) = tested_plain b.measure
field_plain Answer.NoRight = refl
field_plain (Answer.Audited a) = refl
field_plain (Answer.Waits w) = refl
field_plain (Answer.Repeats r) = refl
field_plain (Answer.Open r) = refl

pub case_plain : (names : List (List ℕ)) (tick : Option Tick) (need : Need) (a : Answer) → AreNamed names → IsFit need
    → NeedNoEscapes names tick need a
case_plain names tick need a are fit =
    record {
      section = section_plain need.place.section;
      id = id_plain need.id fit.id;
      measure = field_plain a;
      message = answer_plain names tick need.what a are fit.names;
    }
