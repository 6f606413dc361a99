-- A kernel's fields after a stretch of ticks.
use Rattle.dk_kernel.proofs.Names.{ℕ, zero, suc, ◌≡◌, ◌-◌, ◌<◌, ◌∷◌, List, None, refl, ap, ◌∙◌, sym, subst, arith, replicate, Choice, Entry, State, World, executes, quiet_step, step, Past, choice_at, later, Dispatched, slots, Goes, AreImages, IsRunning, run_of}
use Rattle.dk_kernel.proofs.Called.{same-rows}
use Rattle.dk_kernel.proofs.Worlds.{keeps-images, step-quiet}

-- The world after so many ticks of a choice that executes nothing.
quiet-run : (choice : Choice) (p : Past) (states : List State) → (run_of p states).past ≡ p.entries → executes choice ≡ None
    → (n : ℕ) → ((i : ℕ) → i < n → choice ≡ choice_at (later choice i p))
    → run_of (later choice n p) states ≡ record { past = (later choice n p).entries; images = (run_of p states).images }
quiet-run choice p states run none zero goes = ap (λ entries. record { past = entries; images = (run_of p states).images }) run
quiet-run choice p states run none (suc n) goes =
    let before = quiet-run choice p states run none n (λ i within. goes i (omega (arith, within))) in
    let w : World = record { past = (later choice n p).entries; images = (run_of p states).images } in
    let chose : choice ≡ choice_at (later choice n p) = goes n (omega arith) in
    ap (step p.config) before ∙ step-quiet p.config w (sym (ap executes chose) ∙ none) ∙ ap (λ z. quiet_step z w) (sym chose)

-- the dispatcher and the images after them
pub rest-running : (d d' : Dispatched) (states : List State) (choice : Choice) (n : ℕ) → IsRunning d states → executes choice ≡ None
    → Goes choice n d.past → d'.past ≡ later choice n d.past → d'.threads ≡ d.threads → IsRunning d' states
rest-running d d' states choice n running none goes next rows =
    let p = d.past in
    let is = quiet-run choice p states running.run none n goes.chosen in
    record {
      ready = ap (λ (q : Past). q.tick) next ∙ running.ready;
      run = subst (λ (q : Past). (run_of q states).past ≡ q.entries) (sym next) (ap (λ (v : World). v.past) is);
      images =
          subst (λ (q : Past). AreImages (slots d') (run_of q states).images states) (sym next)
          (subst (λ (v : World). AreImages (slots d') v.images states) (sym is)
          (keeps-images (slots d) (slots d') (run_of p states).images states (same-rows d d' rows) running.images));
    }

-- where there are any, one stands first
pub replicate-some : (n : ℕ) (e : Entry) → (n ≡ 0 → ⊥) → replicate n e ≡ e ∷ replicate (n - 1) e
replicate-some zero e none = absurd (none refl)
replicate-some (suc n) e none = (let one : n ≡ suc n - 1 = omega arith in ap (λ m. e ∷ replicate m e) one)
