-- What is told of words that mean nothing is one line.
use Rattle.dk_show_request.proofs.Names.{ℕ, zero, suc, ◌≡◌, ◌==◌, ◌∙◌, true, false, List, [], ◌∷◌, ◌++◌, codes, refl, sym, ap, subst, length, append_assoc, inl, inr, ◌||◌, Option, Some, None, decimal, slice_get, list_any, cases_Bool, list_any-append, MAX_PROCESSES, MAX_RUN_TICKS, MAX_RESERVE, Form, forms, meant, find, bytes_eq, rules, Reason, is_control, reason, reason_text, shown, wrong_with, flags_text, dashed, AreLines, Holds, IsLine}
use Rattle.dk_show_request.specs.Forms.{form_named}
use Rattle.std.specs.Fmt.{digits}
use Rattle.std.proofs.Common.{Bool}
use Rattle.dk_show_request.proofs.TrueReasons.{reasons_hold}

-- no byte of it is a control character
abbrev IsClean : List ℕ → Type 0
IsClean w = list_any is_control w ≡ false

both_false : (a b : Bool) → a ≡ false → b ≡ false → (a || b) ≡ false
both_false false false p q = refl
both_false false true p q = absurd (cc)
both_false true b p q = absurd (cc)

clean-append : (a b : List ℕ) → IsClean a → IsClean b → IsClean (a ++ b)
clean-append a b p q = list_any-append is_control a b ∙ both_false (list_any is_control a) (list_any is_control b) p q

line-append : (a b : List ℕ) → IsClean a → IsLine b → IsLine (a ++ b)
line-append a b p line = (a ++ line.0, ap (λ x. a ++ x) line.1 ∙ sym (append_assoc a line.0 (10 ∷ [])), clean-append a line.0 p line.2)

shown_clean : (w : List ℕ) → IsClean (shown w)
shown_clean w =
    elim (cases_Bool (length w == 0)) [
      | inl e ↦ rw e refl
      | inr e ↦ elim (cases_Bool (list_any is_control w)) [
        | inl control ↦ rw (e, control) refl
        | inr clean ↦ rw (e, clean) clean
      ]
    ]

most_ticks : IsClean (decimal MAX_RUN_TICKS)
unfolding digits
most_ticks = refl

most_percent : IsClean (decimal MAX_RESERVE)
unfolding digits
most_percent = refl

most_names : IsClean (decimal MAX_PROCESSES)
unfolding digits
most_names = refl

abbrev AllClean : List (List ℕ) → Type 0
AllClean [] = Unit {0}
AllClean (w ∷ ws) = IsClean w × AllClean ws

clean_at : (ws : List (List ℕ)) (i : ℕ) (w : List ℕ) → AllClean ws → slice_get ws i ≡ Some w → IsClean w
clean_at [] i w all at = absurd (cc)
clean_at (v ∷ ws) zero w all at = let same : v ≡ w = cc in subst IsClean same all.0
clean_at (v ∷ ws) (suc i) w all at = clean_at ws i w all.1 at

-- no text that is told of a row has one
record IsCleanForm (f : Form) : Type 0 where
  word : IsClean f.word
  needed : AllClean f.needed
  optional : AllClean f.optional
  flags : IsClean (flags_text f.flags)
  option : IsClean (dashed f.option)

abbrev AreCleanForms : List Form → Type 0
AreCleanForms [] = Unit {0}
AreCleanForms (f ∷ fs) = IsCleanForm f × AreCleanForms fs

found_clean : (p : Form → Bool) (fs : List Form) (f : Form) → AreCleanForms fs → find p fs ≡ Some f → IsCleanForm f
found_clean p [] f all e = absurd (cc)
found_clean p (g ∷ gs) f all e =
    elim (cases_Bool (p g)) [
      | inl is ↦ let found : Some g ≡ Some f = rw is at e in let same : g ≡ f = cc in subst IsCleanForm same all.0
      | inr isnt ↦ found_clean p gs f all.1 (rw isnt at e)
    ]

reason_line : (f : Form) (ws : List (List ℕ)) (r : Reason) → IsCleanForm f → Holds f ws r → IsLine (reason_text r)
reason_line f ws (Reason.no_flag w) clean h = line-append (shown w) _ (shown_clean w) (codes " is no flag of it", refl, refl)
reason_line f ws Reason.empty clean h = (codes "a word is empty", refl, refl)
reason_line f ws (Reason.missing name) clean h = line-append name _ name_clean (codes " is missing", refl, refl)
  where
    name_clean : IsClean name
    name_clean = elim h [
      | inl at ↦ clean_at _ _ name clean.needed at
      | inr at ↦ clean_at _ _ name clean.optional at.1
    ]
reason_line f ws (Reason.surplus w) clean h = line-append (shown w) _ (shown_clean w) (codes " is one word too many", refl, refl)
reason_line f ws (Reason.no_ticks w) clean h = line-append (shown w) _ (shown_clean w)
    (line-append (codes " is no number of ticks from 0 to ") _ refl (line-append (decimal MAX_RUN_TICKS) _ most_ticks ([], refl, refl)))
reason_line f ws (Reason.disorder from to) clean h = line-append (codes "FROM ") _ refl (line-append (shown from) _ (shown_clean from)
    (line-append (codes " isn't below TO ") _ refl (line-append (shown to) _ (shown_clean to) ([], refl, refl))))
reason_line f ws Reason.many_names clean h = line-append (codes "more than ") _ refl (line-append (decimal MAX_PROCESSES) _ most_names (codes " names", refl, refl))
reason_line f ws (Reason.no_allotment w) clean h = line-append (shown w) _ (shown_clean w)
    (line-append (codes " is no NAME=TICKS, with TICKS from 0 to ") _ refl (line-append (decimal MAX_RUN_TICKS) _ most_ticks ([], refl, refl)))
reason_line f ws (Reason.allotted_again name) clean h = line-append (shown name) _ (shown_clean name) (codes " is allotted more than once", refl, refl)
reason_line f ws (Reason.no_command w) clean h = line-append (shown w) _ (shown_clean w) (codes " is no command", refl, refl)
reason_line f ws (Reason.no_percent w) clean h = line-append (shown w) _ (shown_clean w)
    (line-append (codes " is no number of percent from 0 to ") _ refl (line-append (decimal MAX_RESERVE) _ most_percent ([], refl, refl)))
reason_line f ws (Reason.repeated marks) clean h = line-append marks _ marks_clean (codes " stands more than once", refl, refl)
  where
    marks_clean : IsClean marks
    marks_clean = elim h [
      | inl flags ↦ subst IsClean (sym flags.0) clean.flags
      | inr option ↦ subst IsClean (sym option.0) clean.option
    ]
reason_line f ws (Reason.bare w) clean h = line-append (codes "a word is wanted behind ") _ refl (line-append (shown w) _ (shown_clean w) ([], refl, refl))
reason_line f ws Reason.other clean h = (codes "these words are no call of it", refl, refl)

with_line : (w : List ℕ) (o : Option Form) (ws : List (List ℕ)) → ((f : Form) → o ≡ Some f → IsCleanForm f) → IsLine (wrong_with w o ws)
with_line w None ws clean = line-append (shown w) _ (shown_clean w) (codes " is no command", refl, refl)
with_line w (Some f) ws clean = line-append f.word _ (clean f refl).word
    (line-append (codes ": ") _ refl (reason_line f ws (reason f ws) (clean f refl) (reasons_hold f ws)))

-- each row of the table
clean_forms : AreCleanForms forms
clean_forms = search rules

clean_named : (w : List ℕ) (f : Form) → form_named w ≡ Some f → IsCleanForm f
unfolding form_named
clean_named w f e = found_clean (λ g. bytes_eq g.word (meant w)) forms f clean_forms e

pub wrong_lines : AreLines
wrong_lines [] = (codes "a command is wanted", refl, refl)
wrong_lines (program ∷ []) = (codes "a command is wanted", refl, refl)
wrong_lines (program ∷ w ∷ ws) = with_line w (form_named w) ws (clean_named w)
