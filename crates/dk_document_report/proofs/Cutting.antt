-- The expressions of a document, cut byte by byte.
use Rattle.std.proofs.Common.{ℕ, zero, suc, ◌≡◌, ◌≢◌, ◌≤◌, ◌<◌, ◌+◌, ◌-◌, List, [], ◌∷◌, ◌++◌, length, get_or, true, false, refl, sym, ap, subst, ◌∙◌, inl, inr, arith, length-append}
use Rattle.std.specs.Prelude.{◌==◌, slice_range, if◌then◌else◌}
use Rattle.std.proofs.Math.Seq.{get_or-append_seam}
use Rattle.std.proofs.lemmas.List.{get_or_append_left, get_or_past}
use Rattle.std.proofs.lemmas.Bool.{cases_lt, eq-eqb, ne_eqb}
use Rattle.dk_document_report.specs.Expressions.{AreEnds, IsCut, IsExpression, IsUncut, each_line, ends_line, is_document, start_of, stop_of}

-- no line's end more at which the present expression may be cut
uncut-more : (bytes : List ℕ) (start at : ℕ) → IsUncut bytes start (at + 1)
    → (at + 1 ≤ start + each_line → ends_line bytes (at + 1) ≡ true → is_document (slice_range bytes start (at + 1)) ≡ false)
    → IsUncut bytes start (at + 1 + 1)
uncut-more bytes start at old new m after before near line =
    elim (cases_lt m (at + 1)) [
      | inl below ↦ old m after below near line
      | inr above ↦
          let same : at + 1 ≡ m = omega arith in
          subst (λ (k : ℕ). k ≤ start + each_line → ends_line bytes k ≡ true → is_document (slice_range bytes start k) ≡ false) same new near line
    ]

-- the present expression goes on
cut-on : (bytes ends : List ℕ) (start wait at next : ℕ) → IsCut bytes ends start wait at → (0 < next → start + each_line ≤ at)
    → (at + 1 ≤ start + each_line → ends_line bytes (at + 1) ≡ true → is_document (slice_range bytes start (at + 1)) ≡ false)
    → IsCut bytes ends start next (at + 1)
cut-on bytes ends start wait at next cut long new =
    let order : start ≤ at = cut.order in
    record {
      starts = cut.starts;
      order = omega arith;
      begins = cut.begins;
      each = cut.each;
      uncut = uncut-more bytes start at cut.uncut new;
      long = λ some. (let far : start + each_line ≤ at = long some in omega arith);
    }

-- the expression that ends here
ended : (bytes ends : List ℕ) (start wait at : ℕ) → IsCut bytes ends start wait at → at < length bytes → ends_line bytes (at + 1) ≡ true
    → is_document (slice_range bytes start (at + 1)) ≡ true → IsExpression bytes start (at + 1)
ended bytes ends start wait at cut within line itself =
    let order : start ≤ at = cut.order in
    record {
      order = omega arith;
      within = omega arith;
      begins = cut.begins;
      ends = λ _. line;
      itself = λ _. itself;
      uncut = cut.uncut;
    }

start-suc : (ends : List ℕ) (j : ℕ) → start_of ends (suc j) ≡ get_or ends j 0
start-suc ends j =
    let back : suc j - 1 ≡ j = omega arith in
    ap (λ b. if b then 0 else get_or ends (suc j - 1) 0) (ne_eqb (suc j) 0 (λ is. omega (arith, is))) ∙ ap (λ i. get_or ends i 0) back

start-kept : (ends : List ℕ) (x k : ℕ) → k ≤ length ends → start_of (ends ++ x ∷ []) k ≡ start_of ends k
start-kept ends x zero within = refl
start-kept ends x (suc j) within =
    start-suc (ends ++ x ∷ []) j ∙ (get_or_append_left ends (x ∷ []) 0 j (omega (arith, within)) ∙ sym (start-suc ends j))

start-last : (ends : List ℕ) (x : ℕ) → start_of (ends ++ x ∷ []) (length (ends ++ x ∷ [])) ≡ x
start-last ends x =
    let all = length-append ends (x ∷ []) in
    let size : length (ends ++ x ∷ []) ≡ suc (length ends) = omega (arith, all) in
    ap (start_of (ends ++ x ∷ [])) size ∙ (start-suc (ends ++ x ∷ []) (length ends) ∙ get_or-append_seam ends x [] 0)

-- the same ends of an expression
moved : (bytes : List ℕ) (a b c d : ℕ) → a ≡ b → c ≡ d → IsExpression bytes b d → IsExpression bytes a c
moved bytes a b c d e f is = subst (λ (k : ℕ). IsExpression bytes k c) (sym e) (subst (λ (k : ℕ). IsExpression bytes b k) (sym f) is)

-- each expression with one more
each-more : (bytes ends : List ℕ) (start x : ℕ) → start ≡ start_of ends (length ends)
    → ((k : ℕ) → k < length ends → IsExpression bytes (start_of ends k) (stop_of bytes ends k)) → IsExpression bytes start x
    → (k : ℕ) → k < length (ends ++ x ∷ []) → IsExpression bytes (start_of (ends ++ x ∷ []) k) (stop_of bytes (ends ++ x ∷ []) k)
each-more bytes ends start x starts old new k within =
    let all = length-append ends (x ∷ []) in
    elim (cases_lt k (length ends)) [
      | inl below ↦
          moved bytes (start_of (ends ++ x ∷ []) k) (start_of ends k) (stop_of bytes (ends ++ x ∷ []) k) (stop_of bytes ends k)
          (start-kept ends x k (omega (arith, below))) (get_or_append_left ends (x ∷ []) (length bytes) k below) (old k below)
      | inr above ↦
          let last : k ≡ length ends = omega (arith, above, within, all) in
          moved bytes (start_of (ends ++ x ∷ []) k) start (stop_of bytes (ends ++ x ∷ []) k) x
          (ap (start_of (ends ++ x ∷ [])) last ∙ (start-kept ends x (length ends) (omega arith) ∙ sym starts))
          (ap (stop_of bytes (ends ++ x ∷ [])) last ∙ get_or-append_seam ends x [] (length bytes)) new
    ]

-- an expression ends with this byte
cut-here : (bytes ends : List ℕ) (start wait at : ℕ) → IsCut bytes ends start wait at → at < length bytes → ends_line bytes (at + 1) ≡ true
    → is_document (slice_range bytes start (at + 1)) ≡ true → IsCut bytes (ends ++ (at + 1) ∷ []) (at + 1) 0 (at + 1)
cut-here bytes ends start wait at cut within line itself =
    record {
      starts = sym (start-last ends (at + 1));
      order = omega arith;
      begins = λ _. line;
      each = each-more bytes ends start (at + 1) cut.starts cut.each (ended bytes ends start wait at cut within line itself);
      uncut = λ m after before near ends. absurd (omega arith);
      long = λ none. absurd (omega arith);
    }

-- the last expression
last-one : (bytes ends : List ℕ) (start wait at : ℕ) → length bytes ≤ at → at ≤ length bytes → IsCut bytes ends start wait at → IsExpression bytes start (length bytes)
last-one bytes ends start wait at most least cut =
    let order = cut.order in
    record {
      order = omega (arith, order, least);
      within = omega arith;
      begins = cut.begins;
      ends = λ below. absurd (omega (arith, below));
      itself = λ below. absurd (omega (arith, below));
      uncut = λ m after before near line. cut.uncut m after (omega (arith, before, most)) near line;
    }

-- all is cut
pub all-cut : (bytes ends : List ℕ) (start wait at : ℕ) → length bytes ≤ at → at ≤ length bytes → IsCut bytes ends start wait at → AreEnds bytes ends
all-cut bytes ends start wait at most least cut k within =
    elim (cases_lt k (length ends)) [
      | inl below ↦ cut.each k below
      | inr above ↦
          let last : k ≡ length ends = omega (arith, within, above) in
          moved bytes (start_of ends k) start (stop_of bytes ends k) (length bytes)
          (ap (start_of ends) last ∙ sym cut.starts)
          (get_or_past ends k (length bytes) above) (last-one bytes ends start wait at most least cut)
    ]

-- a line ends with the byte at this place
line-here : (bytes : List ℕ) (at : ℕ) → get_or bytes at 0 ≡ 10 → ends_line bytes (at + 1) ≡ true
line-here bytes at is =
    let back : at + 1 - 1 ≡ at = omega arith in
    ap (λ k. get_or bytes k 0 == 10) back ∙ eq-eqb (get_or bytes at 0) 10 is

-- a byte that ends no line
pub cut-past : (bytes ends : List ℕ) (start wait at : ℕ) → IsCut bytes ends start wait at → get_or bytes at 0 ≢ 10 → IsCut bytes ends start wait (at + 1)
cut-past bytes ends start wait at cut other =
    let back : at + 1 - 1 ≡ at = omega arith in
    let none : ends_line bytes (at + 1) ≡ false = ap (λ k. get_or bytes k 0 == 10) back ∙ ne_eqb (get_or bytes at 0) 10 other in
    cut-on bytes ends start wait at wait cut (λ some. (let far = cut.long some in omega (arith, far)))
    (λ near line. absurd (let no : false ≡ true = sym none ∙ line in cc))

-- the end of a line at which it isn't tried
pub cut-waiting : (bytes ends : List ℕ) (start wait at : ℕ) → IsCut bytes ends start wait at → at - start < wait → IsCut bytes ends start wait (at + 1)
cut-waiting bytes ends start wait at cut waits =
    let far : start + each_line < at = cut.long (omega (arith, waits)) in
    cut-on bytes ends start wait at wait cut (λ some. omega (arith, far)) (λ near line. absurd (omega (arith, near, far)))

-- the end of a line at which it is no document
pub cut-tried : (bytes ends : List ℕ) (start wait at next : ℕ) → IsCut bytes ends start wait at → is_document (slice_range bytes start (at + 1)) ≡ false
    → (0 < next → each_line ≤ at - start) → IsCut bytes ends start next (at + 1)
cut-tried bytes ends start wait at next cut none long =
    let order = cut.order in
    cut-on bytes ends start wait at next cut (λ some. (let far = long some in omega (arith, far, order))) (λ near line. none)

-- the end of a line up to which it is one
pub cut-ended : (bytes ends : List ℕ) (start wait at : ℕ) → IsCut bytes ends start wait at → at < length bytes → get_or bytes at 0 ≡ 10
    → is_document (slice_range bytes start (at + 1)) ≡ true → IsCut bytes (ends ++ (at + 1) ∷ []) (at + 1) 0 (at + 1)
cut-ended bytes ends start wait at cut within is itself = cut-here bytes ends start wait at cut within (line-here bytes at is) itself
