use Rattle.dk_threads.proofs.Names.{◌≡◌, ◌<◌, ◌≤◌, ◌∙◌, List, ℕ, length, get_or, ap, sym, subst, slice_get, get, ThreadRow}
use Rattle.dk_threads.proofs.Stored.{row_at, no_row_at}
use Rattle.dk_threads.proofs.rows.Rows.get.Goals as goal

pub returns-in-Some : goal.returns-in-Some
returns-in-Some c =
    let slab = c.self.inside.slab in
    let keys = c.self.inside.keys.items in
    let same : c.deref.result.now ≡ keys = c.deref.ensures.0 in
    let within : c.args.index < length keys = subst (λ (ks : List ℕ). c.args.index < length ks) same c.in-Some.ensures.lookup.3.0 in
    let is : c.in-Some.key.now ≡ get_or keys c.args.index 0 = c.in-Some.ensures.lookup.3.1 0 ∙ ap (λ (ks : List ℕ). get_or ks c.args.index 0) same in
    c.copied.ensures
    ∙ c.get-in-Some.ensures
    ∙ ap (get slab) is
    ∙ sym (row_at slab keys c.args.index 0 c.self.invariant.held within)
    ∙ ap (λ (rows : List ThreadRow). slice_get rows c.args.index) c.self.view_is

pub returns-in-None : goal.returns-in-None
returns-in-None c =
    let keys = c.self.inside.keys.items in
    let past : length keys ≤ c.args.index = subst (λ (ks : List ℕ). length ks ≤ c.args.index) c.deref.ensures.0 c.in-None.ensures.lookup.3 in
    sym (no_row_at c.self.inside.slab keys c.args.index c.self.invariant.held past)
    ∙ ap (λ (rows : List ThreadRow). slice_get rows c.args.index) c.self.view_is
