use Rattle.dk_dispatch.proofs.Names.{ℕ, ◌≡◌, ◌+◌, ◌≤◌, ◌<◌, ◌∙◌, inl, inr, None, ap, arith, length, sym, refl, cases_lt, HasNoWork, work_in, Tables}
use Rattle.dk_dispatch.proofs.tables.AllTables.search_work.Goals as goal

-- a level without work comes after those
one-more : (d : Tables) (level : ℕ) → HasNoWork d level → work_in d level ≡ None → HasNoWork d (level + 1)
one-more d level before here k below = elim (cases_lt k level) [
  | inl less ↦ before k less
  | inr past ↦ ap (work_in d) (omega (arith, below, past)) ∙ here
]

pub returns-in-Some-clause-told : goal.returns-in-Some-clause-told
returns-in-Some-clause-told g c =
    let many : length c.self.inside.kernel ≡ length c.args.self.now.kernel = ap (λ (t : Tables). length t.kernel) c.self.view_is in
    let less : c.loop-level.level < length c.args.self.now.kernel = omega (arith, many, c.len-level-end.ensures, c.loop-level-test.true) in
    record {
      within = omega (arith, less);
      before = c.loop-level.invariant.before;
      there = λ below. sym c.work_at.ensures.told ∙ c.in-Some.is;
      nobody = λ end. absurd (omega (arith, less, end));
    }

pub returns-clause-told : goal.returns-clause-told
returns-clause-told g c =
    let many : length c.self.inside.kernel ≡ length c.args.self.now.kernel = ap (λ (t : Tables). length t.kernel) c.self.view_is in
    let end : c.len.result ≡ length c.args.self.now.kernel = omega (arith, many, c.len.ensures) in
    let last : c.len.result ≤ c.loop-level.level = omega (arith, c.len.ensures, c.len-level-end.ensures, c.loop-level-test.false) in
    record {
      within = omega (arith, end);
      before = λ k below. c.loop-level.invariant.before k (omega (arith, below, last));
      there = λ below. absurd (omega (arith, below, end));
      nobody = λ same. refl;
    }

pub loop-level-preserved : goal.loop-level-preserved
loop-level-preserved g c =
    let steps = c.loop-level.invariant.steps in
    let spent = c.work_at.ensures.steps in
    record {
      before = one-more c.args.self.now c.loop-level.level c.loop-level.invariant.before (sym c.work_at.ensures.told ∙ c.in_default.is);
      steps = omega (arith, steps, spent);
    }

pub loop-level-init : goal.loop-level-init
loop-level-init g c = record { before = c.quiet-level.ensures.quiet; steps = omega arith }
