-- What one more entry makes of the accounts of all processes.
use Rattle.std.proofs.Common.{ℕ, zero, suc, ◌≡◌, ◌+◌, ◌<◌, ◌≤◌, ◌∙◌, refl, sym, ap, arith, Bool, true, false, cond, List, [], ◌∷◌, ◌++◌, length, map, set, get_or, zero-add}
use Rattle.std.specs.Prelude.{◌==◌, ◌&&◌, if◌then◌else◌, min, count_by, Option, Some, None}
use Rattle.std.specs.Option.{option_map_or}
use Rattle.std.proofs.lemmas.Bool.{ne_eqb, eq-eqb}
use Rattle.std.proofs.lemmas.List.{map-append}
use Rattle.std.proofs.lemmas.List.Sums.{count_by-le-length}
use Rattle.dk_config.specs.Sums.{below, numbers}
use Rattle.dk_trace.specs.declared.ThreadId.{ThreadId}
use Rattle.dk_trace.specs.declared.Entry.{Entry}
use Rattle.dk_trace.specs.Entries.{thread_of}
use Rattle.dk_trace.proofs.Windows.{count_by-cons}
use Rattle.dk_ledger.specs.Heading.{Heading}
use Rattle.dk_window_report.specs.declared.account.Tally.{Tally}
use Rattle.dk_window_report.specs.declared.account.Account.{Account}
use Rattle.dk_window_report.specs.Accounts.{is_in, refuses, faults, is_slack, first_at, tally_of, account_of, accounts_of, tally_with, account_with, changed_account, accounts_with}
use Rattle.dk_window_report.proofs.Steps.{numbers-more}

-- ---- one kind of entries

tally-if : (b : Bool) (n total now first : ℕ) → n < 4294967295 → total ≡ cond b 1 0 + n
    → tally_with b now (record { count = n; first = first }) ≡ record { count = total; first = if b && (n == 0) then now else first }
tally-if true n total now first few is =
    let more : min (n + 1) 4294967295 ≡ total = omega (arith, few, is) in
    ap (λ (c : ℕ). record { count = c; first = if n == 0 then now else first }) more
tally-if false n total now first few is =
    let same : n ≡ total = omega (arith, is) in
    ap (λ (c : ℕ). record { count = c; first = first }) same

tally-next : (f : Entry → Bool) (b : Bool) (e : Entry) (past : List Entry) → length past < 4294967295 → f e ≡ b
    → tally_with b (length past) (tally_of f past) ≡ tally_of f (e ∷ past)
tally-next f b e past few is =
    let most = count_by-le-length f past in
    ap (λ c. tally_with c (length past) (tally_of f past)) (sym is)
    ∙ tally-if (f e) (count_by f past) (count_by f (e ∷ past)) (length past) (first_at f past) (omega (arith, most, few)) (count_by-cons f e past)

-- ---- one process

abbrev account_by : ℕ → Tally → Tally → Tally → Account
account_by p t0 t1 t2 = record { process = p; refused = t0; faults = t1; slack = t2 }

account-equal : (p : ℕ) (a0 b0 a1 b1 a2 b2 : Tally) → a0 ≡ b0 → a1 ≡ b1 → a2 ≡ b2 → account_by p a0 a1 a2 ≡ account_by p b0 b1 b2
account-equal p a0 b0 a1 b1 a2 b2 e0 e1 e2 =
    ap (λ t. account_by p t a1 a2) e0 ∙ ap (λ t. account_by p b0 t a2) e1 ∙ ap (account_by p b0 b1) e2

module _ (e : Entry) (past : List Entry) (few : length past < 4294967295) where
  -- the entry is one of the process
  account-own : (p : ℕ) → is_in p e ≡ true → account_with (length past) e (account_of past p) ≡ account_of (e ∷ past) p
  account-own p own =
      account-equal p _ _ _ _ _ _
      (tally-next (λ x. is_in p x && refuses x) (refuses e) e past few (ap (λ b. b && refuses e) own))
      (tally-next (λ x. is_in p x && faults x) (faults e) e past few (ap (λ b. b && faults e) own))
      (tally-next (λ x. is_in p x && is_slack x) (is_slack e) e past few (ap (λ b. b && is_slack e) own))

  account-other : (p : ℕ) → is_in p e ≡ false → account_of past p ≡ account_of (e ∷ past) p
  account-other p other =
      account-equal p _ _ _ _ _ _
      (tally-next (λ x. is_in p x && refuses x) false e past few (ap (λ b. b && refuses e) other))
      (tally-next (λ x. is_in p x && faults x) false e past few (ap (λ b. b && faults e) other))
      (tally-next (λ x. is_in p x && is_slack x) false e past few (ap (λ b. b && is_slack e) other))

  others : (low n : ℕ) → ((p : ℕ) → low ≤ p → is_in p e ≡ false)
      → map (account_of past) (numbers low n) ≡ map (account_of (e ∷ past)) (numbers low n)
  others low zero none = refl
  others low (suc n) none =
      ap (λ a. a ∷ map (account_of past) (numbers (suc low) n)) (account-other low (none low (omega arith)))
      ∙ ap (λ all. account_of (e ∷ past) low ∷ all) (others (suc low) n (λ p above. none p (omega (arith, above))))

  module _ (x : ThreadId) (is : thread_of e.label ≡ Some x) where
    whose : (p : ℕ) (b : Bool) → (x.process == p) ≡ b → is_in p e ≡ b
    whose p b same = ap (λ o. option_map_or (λ (y : ThreadId). y.process == p) o false) is ∙ same

    changed : (low n i : ℕ) → x.process ≡ low + i
        → changed_account (account_with (length past) e) i (map (account_of past) (numbers low n)) ≡ map (account_of (e ∷ past)) (numbers low n)
    changed low zero i at = refl
    changed low (suc n) zero at =
        let here : x.process ≡ low = omega (arith, at) in
        ap (λ a. a ∷ map (account_of past) (numbers (suc low) n)) (account-own low (whose low true (eq-eqb x.process low here)))
        ∙ ap (λ all. account_of (e ∷ past) low ∷ all)
        (others (suc low) n (λ p above. whose p false (ne_eqb x.process p (λ same. omega (arith, above, here, same)))))
    changed low (suc n) (suc i) at =
        ap (λ a. a ∷ changed_account (account_with (length past) e) i (map (account_of past) (numbers (suc low) n)))
        (account-other low (whose low false (ne_eqb x.process low (λ same. omega (arith, at, same)))))
        ∙ ap (λ all. account_of (e ∷ past) low ∷ all) (changed (suc low) n i (omega (arith, at)))

  by-thread : (o : Option ThreadId) → thread_of e.label ≡ o → (n : ℕ)
      → option_map_or (λ x. changed_account (account_with (length past) e) x.process (map (account_of past) (below n))) o (map (account_of past) (below n))
      ≡ map (account_of (e ∷ past)) (below n)
  by-thread None none n = others 0 n (λ p above. ap (λ o. option_map_or (λ (y : ThreadId). y.process == p) o false) none)
  by-thread (Some x) is n = changed x is 0 n x.process (sym (zero-add x.process))

pub accounts-next : (h : Heading) (e : Entry) (past : List Entry) → length past < 4294967295 → accounts_with (length past) e (accounts_of h past) ≡ accounts_of h (e ∷ past)
accounts-next h e past few = by-thread e past few (thread_of e.label) refl (length h.processes)

-- ---- the code's list

-- one process more
pub accounts-more : (past : List Entry) (n : ℕ) → map (account_of past) (below (suc n)) ≡ map (account_of past) (below n) ++ account_of past n ∷ []
accounts-more past n =
    ap (map (account_of past)) (numbers-more 0 n) ∙ map-append (account_of past) (below n) ((0 + n) ∷ [])
    ∙ ap (λ k. map (account_of past) (below n) ++ account_of past k ∷ []) (zero-add n)

pub account-changed : (f : Account → Account) (all : List Account) (i : ℕ) (d : Account) → i < length all → set all i (f (get_or all i d)) ≡ changed_account f i all
account-changed f [] i d there = absurd (omega (arith, there))
account-changed f (a ∷ all) zero d there = refl
account-changed f (a ∷ all) (suc i) d there = ap (λ rest. a ∷ rest) (account-changed f all i d (omega (arith, there)))

pub account-past : (f : Account → Account) (all : List Account) (i : ℕ) → length all ≤ i → all ≡ changed_account f i all
account-past f [] i past = refl
account-past f (a ∷ all) zero past = absurd (omega (arith, past))
account-past f (a ∷ all) (suc i) past = ap (λ rest. a ∷ rest) (account-past f all i (omega (arith, past)))

abbrev pub no_tally : Tally
no_tally = record { count = 0; first = 0 }

abbrev pub no_account : Account
no_account = record { process = 0; refused = no_tally; faults = no_tally; slack = no_tally }
