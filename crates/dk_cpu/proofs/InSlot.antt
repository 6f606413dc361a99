-- Ticks of a context are ticks of the slot that it came from.
use Rattle.std.proofs.Common.{ℕ, zero, suc, ◌≡◌, ◌<◌, ◌∙◌, List, length, set, ap, sym, subst}
use Rattle.std.proofs.lemmas.List.{get_or-set_same, set-get_or, set-set}
use Rattle.dk_cpu.specs.declared.Context.{Context}
use Rattle.dk_cpu.specs.Machine.{body_tick, ran}
use Rattle.dk_cpu.specs.State.{State, WorksFor, RunsFor, after_tick, context_at, no_context, tick_at}

-- this memory, and the context in the slot
abbrev holding : State → ℕ → Context → List ℕ → State
holding s slot x words = record { code = s.code; memory = words; contexts = set s.contexts slot x }

runs-works : (slot cost : ℕ) (s : State) → slot < length s.contexts → (n : ℕ) (x y : Context) (words left : List ℕ) → RunsFor cost s.code n x words y left
    → WorksFor slot cost n (holding s slot x words) (holding s slot y left)
runs-works slot cost s there zero x y words left is = ap (λ z. holding s slot z words) is.0 ∙ ap (holding s slot y) is.1
runs-works slot cost s there (suc n) x y words left (z, between, before, is) =
    let mid = holding s slot z between in
    let same : tick_at mid slot cost ≡ ran y left = ap (λ w. body_tick cost s.code w between) (get_or-set_same s.contexts slot z no_context there) ∙ is in (
      mid,
      runs-works slot cost s there n x z words between before,
      record {
        outcome = ap (λ t. t.outcome) same;
        after = sym (ap (after_tick mid slot) same ∙ ap (λ xs. record { code = s.code; memory = left; contexts = xs }) (set-set s.contexts slot z y));
      },
    )

pub worked : (slot cost n : ℕ) (s last : State) (x y : Context) (code words left : List ℕ) → slot < length s.contexts → code ≡ s.code → words ≡ s.memory
    → x ≡ context_at s slot → last ≡ holding s slot y left → RunsFor cost code n x words y left → WorksFor slot cost n s last
worked slot cost n s last x y code words left there codes memory here is runs =
    let start : holding s slot (context_at s slot) s.memory ≡ s = ap (λ xs. record { code = s.code; memory = s.memory; contexts = xs }) (set-get_or s.contexts slot no_context) in
    let from : RunsFor cost s.code n (context_at s slot) s.memory y left =
    subst (λ w. RunsFor cost s.code n w s.memory y left) here (subst (λ m. RunsFor cost s.code n x m y left) memory (subst (λ k. RunsFor cost k n x words y left) codes runs)) in
    subst (WorksFor slot cost n s) (sym is)
    (subst (λ t. WorksFor slot cost n t (holding s slot y left)) start (runs-works slot cost s there n (context_at s slot) y s.memory left from))
