-- The opening of a tick keeps the sizes of all tables.
use Rattle.dk_recount.proofs.Names.{◌≡◌, ◌∙◌, Bool, true, false, cond, ℕ, List, [], ◌∷◌, length, get_or, refl, slice_set, filter, not, length-map, slice_set-length, Job, Clock, begins_at, ThreadRow, Table, Book, Cells, Wish, dropped, Roster, new_job, released, queued-lists, cells_begun, cells_set, counts_begun, given, given_one, own_in, parts_begun, quieted, quieted_one, remaining_in, seat_in, node_on}
use Rattle.dk_slack.specs.Wishes.{is_of}

module _ (b : Book) (w : Clock) where
  pub given-seats : (rows : List ThreadRow) (r : Roster) → length (given b w rows r).seats ≡ length r.seats
  given-seats [] r = refl
  given-seats (row ∷ rows) r = given-seats rows (given_one b w row r) ∙ one (begins_at w row.level)
    where
      one : (on : Bool) → length (cond on (released (node_on row) (seat_in b w row) r) r).seats ≡ length r.seats
      one true = slice_set-length r.seats (node_on row) (seat_in b w row)
      one false = refl

  pub given-lists : (rows : List ThreadRow) (r : Roster) → length (given b w rows r).ready.lists ≡ length r.ready.lists
  given-lists [] r = refl
  given-lists (row ∷ rows) r = given-lists rows (given_one b w row r) ∙ one (begins_at w row.level)
    where
      one : (on : Bool) → length (cond on (released (node_on row) (seat_in b w row) r) r).ready.lists ≡ length r.ready.lists
      one true = queued-lists (node_on row) (seat_in b w row) r.ready
      one false = refl

  pub given-switch : (rows : List ThreadRow) (r : Roster) → (given b w rows r).switch ≡ r.switch
  given-switch [] r = refl
  given-switch (row ∷ rows) r = given-switch rows (given_one b w row r) ∙ one (begins_at w row.level)
    where
      one : (on : Bool) → (cond on (released (node_on row) (seat_in b w row) r) r).switch ≡ r.switch
      one true = refl
      one false = refl

  pub quieted-length : (rows : List ThreadRow) (wishes : List (List Wish)) → length (quieted w rows wishes) ≡ length wishes
  quieted-length [] wishes = refl
  quieted-length (row ∷ rows) wishes = quieted-length rows (quieted_one w row wishes) ∙ one (begins_at w row.level)
    where
      one : (on : Bool) → length (cond on (dropped (node_on row) wishes) wishes) ≡ length wishes
      one true = length-map wishes (filter (λ v. not (is_of (node_on row) v)))
      one false = refl

pub counts-length : (w : Clock) (ks ns : List ℕ) → length (counts_begun w ks ns) ≡ length ns
counts-length w [] ns = refl
counts-length w (k ∷ ks) ns = counts-length w ks (cond (begins_at w k) (slice_set ns k 0) ns) ∙ one (begins_at w k)
  where
    one : (on : Bool) → length (cond on (slice_set ns k 0) ns) ≡ length ns
    one true = slice_set-length ns k 0
    one false = refl

pub parts-length : (releases : List ℕ) (w : Clock) (ks : List ℕ) (parts : List Job) → length (parts_begun releases w ks parts) ≡ length parts
parts-length releases w [] parts = refl
parts-length releases w (k ∷ ks) parts =
    parts-length releases w ks (cond (begins_at w k) (slice_set parts k (new_job (get_or releases k 0))) parts) ∙ one (begins_at w k)
  where
    one : (on : Bool) → length (cond on (slice_set parts k (new_job (get_or releases k 0))) parts) ≡ length parts
    one true = slice_set-length parts k (new_job (get_or releases k 0))
    one false = refl

pub cells-windows : (releases : List ℕ) (table : Table) (b : Book) (ks : List ℕ) (d : Cells) → (cells_begun releases table b ks d).windows ≡ d.windows
cells-windows releases table b [] d = refl
cells-windows releases table b (k ∷ ks) d =
    cells-windows releases table b ks (cond (begins_at d.windows k) (cells_set k (own_in releases table b d.windows k) (remaining_in releases table b d.windows k) d) d)
    ∙ one (begins_at d.windows k)
  where
    one : (on : Bool) → (cond on (cells_set k (own_in releases table b d.windows k) (remaining_in releases table b d.windows k) d) d).windows ≡ d.windows
    one true = refl
    one false = refl
