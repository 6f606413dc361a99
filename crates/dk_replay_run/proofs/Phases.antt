-- The parts of a window beside its body: the switch in, the switch out behind a wait, and nothing.
use Rattle.dk_alone.proofs.Names.{ℕ, zero, suc, ◌≡◌, ◌+◌, ◌-◌, ◌%◌, ◌<◌, ◌≤◌, Bool, true, false, eqb, ltb, List, ◌++◌, length, refl, sym, ap, ◌∙◌, subst, arith, replicate, add-mod-mod, mod_self, nat_tests, Configuration, period, main_level, budget, window_start, Phase, Choice, Label, Entry, phase, rem, the_job, main_id, Context, World, quiet_entry, alone, choice_alone}
use Rattle.dk_alone.proofs.Own.{Own, own, after-other, own-begins}
use Rattle.dk_alone.proofs.Steps.{alone-rests}
use Rattle.dk_alone.proofs.Ties.{alone-long}
use Rattle.dk_alone.proofs.Again.{on, on-is}
use Rattle.dk_replay_run.proofs.Turns.{At, going, own_from, after-in, after-out, here, chosen, quiet}

is-in : (B u o W : ℕ) → u < W → phase W (the_job B u o false) ≡ Phase.In
is-in B u o W early = let test : ltb u W ≡ true = grind (arith, nat_tests) in rw test refl

left-open : (B u o W : ℕ) → u < B → 0 < rem W (the_job B u o false)
left-open B u o W more = omega arith

pub left-shut : (B u o W : ℕ) → 0 < u → rem W (the_job B u o true) ≡ W - o
left-shut B u o W some = let test : eqb u 0 ≡ false = grind (arith, nat_tests) in rw test refl

module _ (c : Configuration) (p : ℕ) (program : List ℕ) (positive : 0 < period c (main_level c p)) (s : ℕ) (begins : s % period c (main_level c p) ≡ 0)
    (fits : budget c p ≤ period c (main_level c p)) where
  abbrev P : ℕ
  P = period c (main_level c p)

  abbrev W : ℕ
  W = c.costs.switch

  abbrev B : ℕ
  B = budget c p

  abbrev v : ℕ → World
  v n = alone c p program n

  abbrev Now : ℕ → Own → Context → List ℕ → Type 0
  Now t o x m = At c p program s t o x m

  -- the switch in
  pub ins : (j : ℕ) (es : List Entry) (x : Context) (m : List ℕ) → j ≤ W → W < B → Now s (going es B 0 0 false) x m
      → Now (on j s) (going (replicate j (quiet_entry (Label.In (main_id p))) ++ es) B j 0 false) x m
  ins zero es x m low room a = a
  ins (suc j) es x m low room a =
      let so_far : List Entry = replicate j (quiet_entry (Label.In (main_id p))) ++ es in
      let o : Own = going so_far B j 0 false in
      let before : Now (on j s) o x m = ins j es x m (omega arith) room a in
      let place = on-is j s in
      let early : on j s < s + P = omega (arith, place) in
      let some : 0 < rem W o.job = left-open B j 0 W (omega arith) in
      let choice : choice_alone c p (v (on j s)).past ≡ Choice.Budget (main_id p) Phase.In =
      chosen c p program positive s begins (on j s) o x m before early some ∙ ap (Choice.Budget (main_id p)) (is-in B j 0 W (omega arith)) in
      subst (λ (z : Own). Now (suc (on j s)) z x m) (after-in p B j 0 false so_far)
      (quiet c p program positive s begins (on j s) o x m (Choice.Budget (main_id p) Phase.In) (Label.In (main_id p)) before early refl choice)

  -- the switch out
  pub outs : (j t u : ℕ) (es : List Entry) (x : Context) (m : List ℕ) → j ≤ W → 0 < u → t + j ≤ s + P → Now t (going es B u 0 true) x m
      → Now (on j t) (going (replicate j (quiet_entry (Label.Out (main_id p))) ++ es) B (on j u) j true) x m
  outs zero t u es x m low some high a = a
  outs (suc j) t u es x m low some high a =
      let so_far : List Entry = replicate j (quiet_entry (Label.Out (main_id p))) ++ es in
      let o : Own = going so_far B (on j u) j true in
      let before : Now (on j t) o x m = outs j t u es x m (omega arith) some (omega arith) a in
      let place = on-is j t in
      let used = on-is j u in
      let early : on j t < s + P = omega (arith, place, high) in
      let rest : rem W o.job ≡ W - j = left-shut B (on j u) j W (omega (arith, used, some)) in
      let more : 0 < rem W o.job = omega (arith, rest, low) in
      let choice : choice_alone c p (v (on j t)).past ≡ Choice.Budget (main_id p) Phase.Out =
      chosen c p program positive s begins (on j t) o x m before early more in
      subst (λ (z : Own). Now (suc (on j t)) z x m) (after-out p B (on j u) j true so_far)
      (quiet c p program positive s begins (on j t) o x m (Choice.Budget (main_id p) Phase.Out) (Label.Out (main_id p)) before early refl choice)

  -- nothing more in this window
  pub rests : (n t : ℕ) (o : Own) (x : Context) (m : List ℕ) → rem W o.job ≡ 0 → t + n ≤ s + P → Now t o x m → Now (on n t) o x m
  rests zero t o x m none high a = a
  rests (suc n) t o x m none high a =
      let before : Now (on n t) o x m = rests n t o x m none (omega arith) a in
      let place = on-is n t in
      let early : on n t < s + P = omega (arith, place, high) in
      let same = here c p program positive s begins (on n t) o x m before early in
      let choice : choice_alone c p (v (on n t)).past ≡ Choice.Idle =
      alone-rests c p (v (on n t)).past (ap (λ (z : Own). rem W z.job) same ∙ none) in
      subst (λ (z : Own). Now (suc (on n t)) z x m) (after-other c p positive (quiet_entry Label.Idle) o refl)
      (quiet c p program positive s begins (on n t) o x m Choice.Idle Label.Idle before early refl choice)

  -- the next window gives the whole budget again
  pub renewed : (es : List Entry) (share used out : ℕ) (shut : Bool) (x : Context) (m : List ℕ) → Now (s + P) (going es share used out shut) x m
      → At c p program (s + P) (s + P) (going es B 0 0 false) x m
  renewed es share used out shut x m a =
      let past = (v (s + P)).past in
      let none : s + 0 ≡ s = omega arith in
      let begins' : (s + P) % P ≡ 0 = sym (add-mod-mod s P P) ∙ ap (λ k. (s + k) % P) (mod_self P) ∙ ap (λ k. k % P) none ∙ begins in
      let long : length past ≡ s + P = alone-long c p program (s + P) in
      let start : window_start c (main_level c p) (length past) ≡ s + P =
      ap (window_start c (main_level c p)) long ∙ ap (λ k. s + P - k) begins' ∙ omega arith in
      let fresh-own : own c p past ≡ going es B 0 0 false =
      own-begins c p positive past (going es share used out shut) a.plain (ap (λ k. k % P) long ∙ begins')
      (ap (λ (z : Own). z.entries) a.own) (ap (λ (z : Own). z.held) a.own) (ap (λ (z : Own). z.ended) a.own) in
      record {
        low = omega arith;
        own = ap (λ w. own_from c p w past) (sym start) ∙ fresh-own;
        plain = a.plain;
        context = a.context;
        memory = a.memory;
        code = a.code;
      }
