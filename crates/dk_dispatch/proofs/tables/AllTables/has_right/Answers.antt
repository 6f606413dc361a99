use Rattle.dk_dispatch.proofs.Names.{ℕ, ◌≡◌, ◌<◌, ◌∙◌, Bool, false, List, length, get_or, ap, sym, slice_get, option_map_or, slice_get-get_or, Tables, has_right}
use Rattle.dk_dispatch.proofs.tables.AllTables.has_right.Goals as goal

is-right : (rights : List Bool) (p : ℕ) (right : Bool) → p < length rights → right ≡ get_or rights p right → right ≡ option_map_or (λ (r : Bool). r) (slice_get rights p) false
is-right rights p right known at = at ∙ sym (ap (λ o. option_map_or (λ (r : Bool). r) o false) (slice_get-get_or rights p right known))

pub returns-in-Some : goal.returns-in-Some
returns-in-Some c =
    let p = c.args.process in
    let found = c.in-Some.ensures.lookup in
    is-right c.deref.result.now p c.in-Some.right.now found.3.0 found.1
    ∙ ap (λ (rs : List Bool). option_map_or (λ (r : Bool). r) (slice_get rs p) false) c.deref.ensures.0
    ∙ ap (λ (t : Tables). has_right t p) c.self.view_is
