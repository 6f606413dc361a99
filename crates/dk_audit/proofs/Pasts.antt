-- The entries before each tick of a list, the newest first.
use Rattle.dk_audit.proofs.Names.{ℕ, zero, suc, ◌≡◌, ◌+◌, ◌<◌, ◌≤◌, ◌∷◌, [], inl, inr, List, length, take, reverse, get_or, Some, ap, ◌∙◌, sym, subst, arith, add-one, slice_get, cases_lt, take_all, take_more, reverse-append, length-take-le, length-reverse, get_or_from_slice_get, slice_get_within, Configuration, Entry, Audited, Follows, past_of, whole_past}

-- one entry more is the newest
pub past-more : (entries : List Entry) (n : ℕ) (d : Entry) → n < length entries → past_of entries (n + 1) ≡ get_or entries n d ∷ past_of entries n
past-more entries n d within = ap reverse (take_more entries n d within) ∙ reverse-append (take n entries) (get_or entries n d ∷ [])

pub past-length : (entries : List Entry) (n : ℕ) → n ≤ length entries → length (past_of entries n) ≡ n
past-length entries n within = length-reverse (take n entries) ∙ length-take-le n entries within

pub past-whole : (entries : List Entry) (n : ℕ) → length entries ≤ n → past_of entries n ≡ whole_past entries
past-whole entries n few = ap reverse (take_all n entries few)

-- an entry of a list that follows the rules follows them
pub follows-at : (c : Configuration) (entries : List Entry) (m n : ℕ) (e : Entry) → n < m → slice_get entries n ≡ Some e → Audited c (past_of entries m) → Follows c (past_of entries n) e
follows-at c entries zero n e before at audited = absurd (omega arith)
follows-at c entries (suc m) n e before at audited =
    elim (cases_lt m (length entries)) [
      | inl within ↦
          let both : Audited c (get_or entries m e ∷ past_of entries m) = subst (Audited c) (ap (past_of entries) (sym (add-one m)) ∙ past-more entries m e within) audited in
          elim (cases_lt n m) [
            | inl earlier ↦ follows-at c entries m n e earlier at both.0
            | inr late ↦
                let same : m ≡ n = omega (arith, late, before) in
                let here : Follows c (past_of entries n) (get_or entries n e) = subst (λ k. Follows c (past_of entries k) (get_or entries k e)) same both.1 in
                subst (Follows c (past_of entries n)) (get_or_from_slice_get entries n e e at) here
          ]
      | inr beyond ↦
          let inside = slice_get_within entries n e at in
          follows-at c entries m n e (omega (arith, beyond, inside)) at
          (subst (Audited c) (past-whole entries (suc m) (omega (arith, beyond)) ∙ sym (past-whole entries m beyond)) audited)
    ]
