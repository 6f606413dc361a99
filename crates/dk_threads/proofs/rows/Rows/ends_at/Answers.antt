use Rattle.dk_threads.proofs.Names.{◌≡◌, ◌<◌, ◌∙◌, ℕ, List, Option, length, get_or, Bool, true, false, ap, sym, arith, list_any, option_map_or, get, ThreadRow, ends_at}
use Rattle.dk_threads.proofs.Stored.{any-found, any-passed}
use Rattle.dk_threads.proofs.rows.Rows.ends_at.Goals.{in-Some+else-ends_at, in_default}
use Rattle.dk_threads.proofs.rows.Rows.ends_at.Goals as goal

pub loop-key-preserved : goal.loop-key-preserved
loop-key-preserved c =
    let slab = c.self.inside.slab in
    let keys = c.self.inside.keys.items in
    let i = c.loop-key.key-index in
    let same : c.as_slice-key-items.result.now ≡ keys = c.as_slice-key-items.ensures.value in
    let inside : i < length keys = omega (arith, ap length same, c.loop-key-test.true) in
    let key : get_or c.as_slice-key-items.result.now i 0 ≡ get_or keys i 0 = ap (λ (ks : List ℕ). get_or ks i 0) same in
    let test : Option ThreadRow → Bool = λ o. option_map_or (ends_at c.args.now) o false in
    let off : test (get slab (get_or keys i 0)) ≡ false = elim c.match-get.branch [
      | in-Some+else-ends_at w ↦ ap test (sym (w.in-Some.ensures ∙ ap (get slab) key)) ∙ sym w.ends_at.ensures ∙ w.if-ends_at.false
      | in_default w ↦ ap test (sym (w.in_default.ensures ∙ ap (get slab) key))
    ] in
    any-passed (ends_at c.args.now) slab keys i 0 inside off ∙ c.loop-key.invariant

pub returns-then-ends_at : goal.returns-then-ends_at
returns-then-ends_at c =
    let slab = c.self.inside.slab in
    let keys = c.self.inside.keys.items in
    let i = c.loop-key.key-index in
    let same : c.as_slice-key-items.result.now ≡ keys = c.as_slice-key-items.ensures.value in
    let inside : i < length keys = omega (arith, ap length same, c.loop-key-test.true) in
    let key : get_or c.as_slice-key-items.result.now i 0 ≡ get_or keys i 0 = ap (λ (ks : List ℕ). get_or ks i 0) same in
    let test : Option ThreadRow → Bool = λ o. option_map_or (ends_at c.args.now) o false in
    let on : test (get slab (get_or keys i 0)) ≡ true = ap test (sym (c.in-Some.ensures ∙ ap (get slab) key)) ∙ sym c.ends_at.ensures ∙ c.if-ends_at.true in
    sym (ap (list_any (ends_at c.args.now)) (sym c.self.view_is) ∙ sym c.loop-key.invariant ∙ any-found (ends_at c.args.now) slab keys i 0 inside on)
