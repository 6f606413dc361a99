use Rattle.dk_threads.proofs.Names.{◌≡◌, ◌<◌, ◌∙◌, ℕ, List, Option, length, get_or, Bool, true, false, ap, sym, arith, list_any, option_map_or, nat_tests, get, ThreadRow, has_slot}
use Rattle.dk_threads.proofs.Stored.{any-found, any-passed}
use Rattle.dk_threads.proofs.rows.Rows.is_taken.Goals.{in-Some+else-row-slot, in_default}
use Rattle.dk_threads.proofs.rows.Rows.is_taken.Goals as goal

pub loop-key-preserved : goal.loop-key-preserved
loop-key-preserved c =
    let slab = c.self.inside.slab in
    let keys = c.self.inside.keys.items in
    let i = c.loop-key.key-index in
    let same : c.as_slice-key-items.result.now ≡ keys = c.as_slice-key-items.ensures.value in
    let inside : i < length keys = omega (arith, ap length same, c.loop-key-test.true) in
    let key : get_or c.as_slice-key-items.result.now i 0 ≡ get_or keys i 0 = ap (λ (ks : List ℕ). get_or ks i 0) same in
    let test : Option ThreadRow → Bool = λ o. option_map_or (has_slot c.args.slot) o false in
    let off : test (get slab (get_or keys i 0)) ≡ false = elim c.match-get.branch [
      | in-Some+else-row-slot w ↦ ap test (sym (w.in-Some.ensures ∙ ap (get slab) key)) ∙ (grind (arith, nat_tests))
      | in_default w ↦ ap test (sym (w.in_default.ensures ∙ ap (get slab) key))
    ] in
    any-passed (has_slot c.args.slot) slab keys i 0 inside off ∙ c.loop-key.invariant

pub returns-then-row-slot : goal.returns-then-row-slot
returns-then-row-slot c =
    let slab = c.self.inside.slab in
    let keys = c.self.inside.keys.items in
    let i = c.loop-key.key-index in
    let same : c.as_slice-key-items.result.now ≡ keys = c.as_slice-key-items.ensures.value in
    let inside : i < length keys = omega (arith, ap length same, c.loop-key-test.true) in
    let key : get_or c.as_slice-key-items.result.now i 0 ≡ get_or keys i 0 = ap (λ (ks : List ℕ). get_or ks i 0) same in
    let test : Option ThreadRow → Bool = λ o. option_map_or (has_slot c.args.slot) o false in
    let on : test (get slab (get_or keys i 0)) ≡ true = ap test (sym (c.in-Some.ensures ∙ ap (get slab) key)) ∙ (grind (arith, nat_tests)) in
    sym (ap (list_any (has_slot c.args.slot)) (sym c.self.view_is) ∙ sym c.loop-key.invariant ∙ any-found (has_slot c.args.slot) slab keys i 0 inside on)
