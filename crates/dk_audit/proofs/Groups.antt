-- The entries of a line, one after another.
use Rattle.dk_audit.proofs.Names.{ℕ, zero, suc, ◌≡◌, ◌∙◌, ◌+◌, ◌-◌, ◌<◌, ◌≤◌, ◌++◌, [], ◌∷◌, List, length, take, reverse, Some, None, refl, sym, ap, subst, arith, append_assoc, length-append, replicate, reverse-append, length-replicate, replicate_more, Configuration, Entry, chosen, Audited, Follows, HasChosenLabel, LedgerLine, entries_of, get_seam, Past, Dispatched, Finding, Breach, IsAfter, IsJudged, ready_past, past_of, whole_past, found_at, FollowsSoFar}
use Rattle.dk_audit.specs.declared.finding.Breach.TheVariants as breach

-- there is a next one, and more behind it
pub next_and_more : {A : Type 0} (x : A) (n m : ℕ) → n < m → (k : ℕ) × (replicate m x ≡ replicate n x ++ x ∷ replicate k x)
next_and_more x n zero l = absurd (omega arith)
next_and_more x zero (suc m) l = (m, refl)
next_and_more x (suc n) (suc m) l = let rest = next_and_more x n m (omega arith) in (rest.0, ap (λ xs. x ∷ xs) rest.1)

take_seam : {A : Type 0} (xs ys : List A) → take (length xs) (xs ++ ys) ≡ xs
take_seam [] ys = refl
take_seam (x ∷ xs) ys = ap (λ zs. x ∷ zs) (take_seam xs ys)

pub newest : (es : List Entry) (e : Entry) → whole_past (es ++ e ∷ []) ≡ e ∷ whole_past es
newest es e = reverse-append es (e ∷ [])

-- the tables are those of the next tick
pub ready_after : (c : Configuration) (es : List Entry) (e : Entry) (all : List Entry) (d : Dispatched) → es ++ e ∷ [] ≡ all
    → IsAfter c (e ∷ whole_past es) d → IsAfter c (whole_past all) d
ready_after c es e all d same ready = subst (λ p. IsAfter c p d) (sym (newest es e) ∙ ap reverse same) ready

-- the entry behind these breaks the rules
pub breach_at : (c : Configuration) (es : List Entry) (e : Entry) (more all : List Entry) (b : Breach) (n : ℕ) (given : Finding) (new : Past) (d : Dispatched)
    → es ++ e ∷ more ≡ all → n ≡ length es → given ≡ found_at b n → Audited c (whole_past es) → IsJudged e (ready_past c (whole_past es)) (Some b) new
    → FollowsSoFar c all (Some given) d
breach_at c es e more all b n given new d whole at is audited judged =
    subst (λ f. FollowsSoFar c all (Some f) d) (sym is)
    (subst (λ k. FollowsSoFar c all (Some (found_at b k)) d) (sym at) (subst (λ xs. FollowsSoFar c xs (Some (found_at b (length es))) d) whole (here b judged)))
  where
    past : past_of (es ++ e ∷ more) (length es) ≡ whole_past es
    past = ap reverse (take_seam es (e ∷ more))

    here : (b : Breach) → IsJudged e (ready_past c (whole_past es)) (Some b) new → FollowsSoFar c (es ++ e ∷ more) (Some (found_at b (length es))) d
    here breach.Label judged =
        record {
          before = subst (Audited c) (sym past) audited;
          entry = e;
          at = get_seam es e more;
          wrong = subst (λ p. ¬ HasChosenLabel (chosen c p) e.label) (sym past) judged;
        }
    here breach.Event judged =
        record {
          before = subst (Audited c) (sym past) audited;
          entry = e;
          at = get_seam es e more;
          label = subst (λ p. HasChosenLabel (chosen c p) e.label) (sym past) judged.0;
          wrong = subst (λ p. ¬ Follows c p e) (sym past) judged.1;
        }

-- the entries of a line, as far as they have been judged
module _ (es : List Entry) (l : LedgerLine) where
  abbrev quiet : Entry
  quiet = record { label = l.label; event = None }

  abbrev last : Entry
  last = record { label = l.label; event = l.event }

  abbrev pub judged_so_far : ℕ → List Entry
  judged_so_far tick = es ++ replicate (tick - l.start) quiet

  pub judged_length : (tick : ℕ) → l.start ≡ length es → l.start ≤ tick → tick ≡ length (judged_so_far tick)
  judged_length tick start from =
      let sum = length-append es (replicate (tick - l.start) quiet) in
      let count = length-replicate (tick - l.start) quiet in
      omega (arith, sum, count, start, from)

  pub quiet_next : (tick : ℕ) → l.start ≤ tick → tick < l.start + (l.count - 1) → (more : List Entry) × (judged_so_far tick ++ quiet ∷ more ≡ es ++ entries_of l)
  quiet_next tick from before =
      let rest = next_and_more quiet (tick - l.start) (l.count - 1) (omega (arith, from, before)) in (
        replicate rest.0 quiet ++ last ∷ [],
        append_assoc es (replicate (tick - l.start) quiet) (quiet ∷ (replicate rest.0 quiet ++ last ∷ []))
            ∙ ap (λ xs. es ++ xs) (sym (append_assoc (replicate (tick - l.start) quiet) (quiet ∷ replicate rest.0 quiet) (last ∷ [])))
            ∙ ap (λ xs. es ++ (xs ++ last ∷ [])) (sym rest.1),
      )

  pub quiet_more : (tick : ℕ) → l.start ≤ tick → judged_so_far tick ++ quiet ∷ [] ≡ judged_so_far (tick + 1)
  quiet_more tick from =
      let same : tick - l.start + 1 ≡ tick + 1 - l.start = omega (arith, from) in
      append_assoc es (replicate (tick - l.start) quiet) (quiet ∷ []) ∙ ap (λ xs. es ++ xs) (replicate_more (tick - l.start) quiet ∙ ap (λ n. replicate n quiet) same)

  pub last_next : (tick : ℕ) → tick ≡ l.start + (l.count - 1) → judged_so_far tick ++ last ∷ [] ≡ es ++ entries_of l
  last_next tick is =
      let same : tick - l.start ≡ l.count - 1 = omega (arith, is) in
      append_assoc es (replicate (tick - l.start) quiet) (last ∷ []) ∙ ap (λ n. es ++ (replicate n quiet ++ last ∷ [])) same
