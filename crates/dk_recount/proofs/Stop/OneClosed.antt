-- An event that closes one thread's window: what the tables then have.
use Rattle.dk_recount.proofs.Names.{◌≡◌, ◌<◌, ◌+◌, ◌∙◌, inl, inr, true, Bool, ℕ, List, [], ◌∷◌, length, Some, refl, ap, sym, subst, arith, if◌then◌else◌, Configuration, IsChecked, IsAccepted, eqb-flip, ThreadId, Entry, is_same, quiet, Has, Thread, threads, held_by, greatest_left, own_demand, remaining_demand, Audited, Follows, same-id, same-self, IsPlain, family-among, AtEachEntry, closes, given_up, IsClosedAlone, OneIsClosed, RowsAreNamed, ThreadRow, AreFamilies, find_row, RowOf, named, left_up_to, dropped_on, Tables, IsSound, IsCharged, node_on, Laws, nat_tests}
use Rattle.dk_recount.proofs.Stop.ShutTables.{own-part, remaining-part}
use Rattle.dk_recount.proofs.Stop.ShutRecount.{Shuts, dropped-is, lefts-are}

-- the sum over one row
pub first-part : (b b' : Bool) (n m : ℕ) → b ≡ b' → n ≡ m → 0 + (if b then n else 0) ≡ (if b' then m else 0)
first-part b b' n m same is = grind (arith, nat_tests)

module _ (laws : Laws) (ones : AtEachEntry OneIsClosed) (c : Configuration) (e : Entry) (past : List Entry) (d : Tables) (row : ThreadRow)
    (sound : IsSound d) (are : AreFamilies d.threads.levels d.threads.families)
    (charged : IsCharged c e.label past d) (follows : Follows c past e)
    (found : find_row d.threads row.id ≡ Some row) (x : Thread) (of : RowOf c past row x)
    (closed : IsClosedAlone e x) (plain : IsPlain e.event)
    (held : (i : ThreadId) → held_by i (e ∷ past) ≡ (if named (row ∷ []) i then [] else held_by i (quiet e.label ∷ past))) where
  abbrev now : ℕ
  now = length past

  abbrev before : List Entry
  before = quiet e.label ∷ past

  abbrev rows : List ThreadRow
  rows = row ∷ []

  checked : IsChecked c
  checked = charged.ruled.checked

  accepted : IsAccepted c
  accepted = charged.ruled.accepted

  audited : Audited c past
  audited = charged.ruled.audited

  among : Has (threads c past) x
  among = family-among c x.id.process past x of.process of.family

  one : OneIsClosed c e past
  one = ones c e past checked accepted (audited, follows)

  only : (y : Thread) → Has (threads c past) y → closes e y ≡ is_same y.id x.id
  only y h = one.only x y among h closed

  pub shuts : Shuts c e past d rows
  shuts = record {
    plain = plain;
    apart = (λ q h. absurd h, tt);
    each = λ r h. each r h;
    all = λ y h shut. (row, inl refl, sym (same-id y.id row.id (ap (is_same y.id) (sym of.id) ∙ sym (only y h) ∙ shut)));
    held = held;
  }
    where
      each : (r : ThreadRow) → Has rows r → (y : Thread) × RowOf c past r y × (find_row d.threads r.id ≡ Some r) × (closes e y ≡ true)
      each r (inl is) =
          subst (λ q. (y : Thread) × RowOf c past q y × (find_row d.threads q.id ≡ Some q) × (closes e y ≡ true)) is
          (x, of, found, only x among ∙ same-self x.id)
      each r (inr none) = absurd none

  shut-is : (shuts.each row (inl refl)).0 ≡ x
  shut-is =
      let names : RowsAreNamed c past = laws.named c past checked accepted audited in
      let z = shuts.each row (inl refl) in
      names.distinct z.0 x (family-among c z.0.id.process past z.0 z.1.process z.1.family) among (z.1.id ∙ sym of.id)

  pub dropped-here : dropped_on (node_on row) d.jobs ≡ given_up c e past x
  dropped-here = dropped-is laws c e past d rows sound are charged follows shuts row (inl refl) ∙ ap (given_up c e past) shut-is

  pub lefts-here : (j : ℕ) → left_up_to row.id j d.mutexes ≡ greatest_left c j (held_by x.id before)
  lefts-here j = lefts-are laws c e past d rows sound are charged follows shuts row (inl refl) j ∙ ap (λ (z : Thread). greatest_left c j (held_by z.id before)) shut-is

  -- what demand loses is what the row gives up
  pub own-law : (j : ℕ) → j < length c.levels → own_demand c now (e ∷ past) j + own-part rows j d ≡ own_demand c now before j
  own-law j h = grind (arith, nat_tests, first-part, eqb-flip, dropped-here, one, among, one.own x j among closed)

  pub remaining-law : (j : ℕ) → j < length c.levels → remaining_demand c now (e ∷ past) j + remaining-part rows j d ≡ remaining_demand c now before j
  remaining-law j h = grind (arith, nat_tests, first-part, dropped-here, one, among, one.remaining x j h among closed)
