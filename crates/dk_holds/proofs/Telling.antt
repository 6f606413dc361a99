-- A hold has been begun, and not ended since.
use Rattle.std.proofs.Common.{ℕ, ◌≡◌, ◌∙◌, ◌+◌, ◌++◌, [], ◌∷◌, List, length, sym, ap, refl}
use Rattle.std.specs.Prelude.{Bool, true, false, ◌||◌, Option, Some, None, if◌then◌else◌, option_map}
use Rattle.std.specs.List.{list_any}
use Rattle.std.specs.Option.{option_or}
use Rattle.std.proofs.lemmas.Bool.{or_parts}
use Rattle.dk_trace.specs.declared.Entry.{Entry}
use Rattle.dk_trace.specs.Entries.{does, has_event, stops, thread_of}
use Rattle.dk_holds.specs.declared.holding.Holding.{Holding}
use Rattle.dk_holds.specs.Holds.{begun, behind, ends, going_on, holding, is_lock_of, is_unlock_of}
use Rattle.dk_holds.specs.Told.{IsHeld}

one_more : (m : ℕ) (e : Entry) (past : List Entry) (h : Holding) → ends m h.thread e ≡ false → IsHeld m past h → IsHeld m (e ∷ past) h
one_more m e past h on is = record {
  later = e ∷ is.later;
  lock = is.lock;
  earlier = is.earlier;
  parts = ap (λ t. e ∷ t) is.parts;
  begins = is.begins;
  goes_on = ap (λ b. b || list_any (ends m h.thread) is.later) on ∙ is.goes_on;
}

went_on : (m : ℕ) (e : Entry) (k h : Holding) (b : Bool) → ends m k.thread e ≡ b → (if b then None else Some k) ≡ Some h → (k ≡ h) × (ends m h.thread e ≡ false)
went_on m e k h true is same = absurd (cc)
went_on m e k h false is same =
    let one : k ≡ h = cc in
    (one, ap (λ (j : Holding). ends m j.thread e) (sym one) ∙ is)

one_step : (m : ℕ) (e : Entry) (past : List Entry) (h : Holding) → ((k : Holding) → holding m past ≡ Some k → IsHeld m past k)
    → holding m (e ∷ past) ≡ Some h → IsHeld m (e ∷ past) h
one_step m e past h earlier is = go (begun m (length past) e) refl (holding m past) refl
  where
    old : (before : Option Holding) → holding m past ≡ before → going_on m e before ≡ Some h → IsHeld m (e ∷ past) h
    old None was goes = absurd (cc)
    old (Some k) was goes =
        let on = went_on m e k h (ends m k.thread e) refl goes in
        one_more m e past h on.1 (earlier h (was ∙ ap (λ (j : Holding). Some j) on.0))

    go : (new : Option Holding) → begun m (length past) e ≡ new → (before : Option Holding) → holding m past ≡ before → IsHeld m (e ∷ past) h
    go (Some k) begins before was =
        record {
          later = [];
          lock = e;
          earlier = past;
          parts = refl;
          begins = begins ∙ sym (ap (λ o. option_or o (going_on m e (holding m past))) begins) ∙ is;
          goes_on = refl;
        }
    go None begins before was =
        old before was
        (sym (ap (λ o. option_or o (going_on m e before)) begins) ∙ ap (λ o. option_or (begun m (length past) e) (going_on m e o)) (sym was) ∙ is)

pub held : (m : ℕ) (past : List Entry) (h : Holding) → holding m past ≡ Some h → IsHeld m past h
held m [] h is = absurd (cc)
held m (e ∷ past) h is = one_step m e past h (held m past) is

abbrev begun_if : ℕ → Entry → Bool → Option Holding
begun_if n e b = if b then option_map (λ x. record { thread = x; since = n + 1 }) (thread_of e.label) else None

pub no_lock : (m n : ℕ) (e : Entry) → has_event (is_lock_of m) e ≡ false → begun m n e ≡ None
no_lock m n e none = ap (begun_if n e) none

goes_on : (m : ℕ) (h : Holding) (later earlier : List Entry) (lock : Entry) → begun m (length earlier) lock ≡ Some h → list_any (ends m h.thread) later ≡ false
    → holding m (later ++ lock ∷ earlier) ≡ Some h
goes_on m h [] earlier lock begins none = ap (λ o. option_or o (going_on m lock (holding m earlier))) begins
goes_on m h (e ∷ later) earlier lock begins none =
    let parts = or_parts (ends m h.thread e) (list_any (ends m h.thread) later) none in
    let own = parts.0 in
    let before = goes_on m h later earlier lock begins parts.1 in
    let n = length (later ++ lock ∷ earlier) in
    let locks = (or_parts (stops h.thread e) (has_event (is_lock_of m) e) (or_parts (does (is_unlock_of m) h.thread e) _ own).1).1 in
    ap (behind m n e) before ∙ ap (λ o. option_or o (going_on m e (Some h))) (no_lock m n e locks) ∙ ap (λ b. if b then None else Some h) own

pub all : (m : ℕ) (past : List Entry) (h : Holding) → IsHeld m past h → holding m past ≡ Some h
all m past h is = ap (holding m) is.parts ∙ goes_on m h is.later is.earlier is.lock is.begins is.goes_on
