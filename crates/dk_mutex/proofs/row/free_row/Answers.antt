use Rattle.dk_mutex.proofs.Names.{◌≡◌, ◌<◌, ◌∙◌, ap, refl, subst, sym, ℕ, Bool, List, length, Option, None, Some, option_map_or, slice_get_read, Configuration, row_of, users_of}
use Rattle.std.specs.Prelude.{slice_get}
use Rattle.dk_config.specs.Mutex.{Mutex}
use Rattle.dk_mutex.proofs.row.free_row.Goals as goal

made : (c : Configuration) (m : ℕ) (row : Mutex) → slice_get c.mutexes m ≡ Some row
    → record { ceiling = row.ceiling; hold = row.hold; users = users_of c m; holder = None } ≡ row_of c m
made c m row some =
    sym (ap (λ (o : Option Mutex). record { ceiling = option_map_or (λ (r : Mutex). r.ceiling) o 0; hold = option_map_or (λ (r : Mutex). r.hold) o 0; users = users_of c m; holder = None }) some)

pub returns : goal.returns
returns c =
    let row = c.index-row.result.now in
    let same : c.config.inside.mutexes.items ≡ c.args.config.now.mutexes = ap (λ (k : Configuration). k.mutexes) c.config.view_is in
    let below : c.args.mutex < length c.config.inside.mutexes.items = subst (λ (ms : List Mutex). c.args.mutex < length ms) (sym same) c.requires.known in
    let some : slice_get c.args.config.now.mutexes c.args.mutex ≡ Some row =
    subst (λ (ms : List Mutex). slice_get ms c.args.mutex ≡ Some row) same (slice_get_read c.config.inside.mutexes.items _ c.args.mutex row refl below c.index-row.ensures) in
    ap (λ (k : Mutex). record { ceiling = k.ceiling; hold = k.hold; users = c.users_of-users.result; holder = None }) c.row.view_is
    ∙ ap (λ (us : List Bool). record { ceiling = row.ceiling; hold = row.hold; users = us; holder = None }) c.users_of-users.ensures
    ∙ made c.args.config.now c.args.mutex row some
