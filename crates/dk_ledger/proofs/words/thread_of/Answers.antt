use Rattle.dk_ledger.proofs.Names.{ℕ, ◌≡◌, ◌∙◌, ◌<◌, List, length, sym, subst, ap, arith, append_assoc, Option, Some, None, MatchOption, decimal, codes, Bor, IsSplitOnceResult, split_after, ThreadId, Heading, IsPrintable, name_of, thread_text}
use Rattle.dk_ledger.proofs.WordBytes.{no_dot_at, name_at_no_dots}
use Rattle.dk_ledger.proofs.words.thread_of.Goals as goal

-- the word is cut at the dot behind the name
cut : (h : Heading) (x : ThreadId) (word : List ℕ) (r : Option (Bor (List ℕ) × Bor (List ℕ))) → IsPrintable h → x.process < length h.processes → word ≡ thread_text h x → IsSplitOnceResult 46 word r
    → MatchOption r ⊥ (λ p. (p.0.now ≡ name_of h x.process) × (p.1.now ≡ decimal x.serial))
cut h x word r printable there is once =
    split_after 46 word (name_of h x.process) (decimal x.serial) r once (omega arith) (is ∙ append_assoc (name_of h x.process) (codes ".") (decimal x.serial))
    (no_dot_at (name_of h x.process) (name_at_no_dots h x.process printable.names there))

at_some : (r : Option (Bor (List ℕ) × Bor (List ℕ))) (p : Bor (List ℕ) × Bor (List ℕ)) (Q : Bor (List ℕ) × Bor (List ℕ) → Type 0) → r ≡ Some p → MatchOption r ⊥ Q → Q p
at_some None p Q e m = absurd m
at_some (Some q) p Q e m = let same : q ≡ p = cc in subst Q same m

at_none : (r : Option (Bor (List ℕ) × Bor (List ℕ))) (Q : Bor (List ℕ) × Bor (List ℕ) → Type 0) → r ≡ None → MatchOption r ⊥ Q → ⊥
at_none None Q e m = m
at_none (Some q) Q e m = absurd (cc)

none_is_not_some : {n : ℕ} → None ≡ Some n → ⊥
none_is_not_some e = cc

pub returns-in_err-name-clause-found : goal.returns-in_err-name-clause-found
returns-in_err-name-clause-found c = λ x readable e.
    absurd (at_none c.split_once.result _ c.in_err-name.was (cut c.args.header.now x c.args.word.now c.split_once.result c.requires.printable readable.0 e c.split_once.ensures.cases))

pub returns-in_err-process_of-clause-found : goal.returns-in_err-process_of-clause-found
returns-in_err-process_of-clause-found c = λ x readable e.
    let parts = at_some c.split_once.result _ _ c.in_ok-name.was (cut c.args.header.now x c.args.word.now c.split_once.result c.requires.printable readable.0 e c.split_once.ensures.cases) in
    let found = c.process_of.ensures.found x.process readable.0 parts.0 in
    c.from_residual-in_err-process_of.ensures ∙ absurd (none_is_not_some (sym c.in_err-process_of.was ∙ found))

pub returns-clause-found : goal.returns-clause-found
returns-clause-found c = λ x readable e.
    let parts = at_some c.split_once.result _ _ c.in_ok-name.was (cut c.args.header.now x c.args.word.now c.split_once.result c.requires.printable readable.0 e c.split_once.ensures.cases) in
    let found : Some c.in_ok-process_of.field-0 ≡ Some x.process = sym c.in_ok-process_of.was ∙ c.process_of.ensures.found x.process readable.0 parts.0 in
    let serial = c.number.ensures x.serial readable.1 parts.1 in
    let process : c.in_ok-process_of.field-0 ≡ x.process = cc in
    ap (λ p. Some (record { process = p; serial = c.number.result })) process ∙ ap (λ s. Some (record { process = x.process; serial = s })) serial
