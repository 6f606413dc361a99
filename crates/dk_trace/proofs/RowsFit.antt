-- The rows of the threads: serials are places, levels are known, and a child is one that its process may have.
use Rattle.dk_trace.proofs.Names.{ℕ, ◌≡◌, ◌+◌, ◌<◌, ◌≤◌, ◌⊎◌, inl, inr, cond, List, [], ◌∷◌, length, refl, sym, ap, subst, arith, ◌∙◌, map, Option, Some, None, cases_Bool, length-map, Configuration, IsChecked, main_level, max_level, slots, Event, Entry, is_of, Thread, threads, family, after_entry, made_by, new_rows, Audited, Follows, Has}
use Rattle.dk_trace.proofs.Members.{append-left, has-append, map-has, has-map, has-flat, flat-has}
use Rattle.dk_trace.proofs.Mains.{main_id}
use Rattle.dk_trace.proofs.Distinct.{Distinct, Distinct-flat, Numbered, Numbered-serial, Numbered-Distinct, Numbered-after, Numbered-more}
use Rattle.dk_trace.proofs.Events.{IsNew, new-row}

pub record RowFits (c : Configuration) (x : Thread) : Type 0 where
  pub known : x.id.process < length c.processes
  pub low : main_level c x.id.process ≤ x.level
  pub high : x.level ≤ max_level c x.id.process
  pub child : (x.level ≡ main_level c x.id.process) ⊎ (0 < slots c x.id.process)

pub record FamilyFits (c : Configuration) (p : ℕ) (past : List Entry) : Type 0 where
  pub numbered : Numbered p 0 (family c p past)
  pub rows : (x : Thread) → Has (family c p past) x → RowFits c x

-- the child that an event makes is numbered
made-numbered : (c : Configuration) (p n place : ℕ) (event : Option Event) → ((y : Thread) → Has (made_by c p n event) y → y.id ≡ record { process = p; serial = place })
    → Numbered p place (made_by c p n event)
made-numbered c p n place (Some (Event.Create serial level quota)) each = (each _ (inl refl), tt)
made-numbered c p n place None each = tt
made-numbered c p n place (Some event) each = tt

pub new-numbered : (c : Configuration) (p : ℕ) (past : List Entry) (e : Entry) → Follows c past e → Numbered p (length (family c p past)) (new_rows c p e past)
new-numbered c p past e follows =
    elim (cases_Bool (is_of (main_id p) e)) [
      | inl mine ↦ rw mine (made-numbered c p (length past) (length (family c p past)) e.event (λ y h. id_of y (rw mine h)))
      | inr other ↦ rw other tt
    ]
  where
    id_of : (y : Thread) → Has (new_rows c p e past) y → y.id ≡ record { process = p; serial = length (family c p past) }
    id_of y h =
        let new = new-row c p e past y follows h in
        ap (λ q. record { process = q; serial = y.id.serial }) new.process ∙ ap (λ k. record { process = p; serial = k }) new.met.next

new-fits : (c : Configuration) (p : ℕ) (past : List Entry) (y : Thread) → p < length c.processes → IsNew c p past y → RowFits c y
new-fits c p past y known new =
    let at = sym new.process in
    record {
      known = subst (λ q. q < length c.processes) at known;
      low = subst (λ q. main_level c q ≤ y.level) at new.met.above;
      high = subst (λ q. y.level ≤ max_level c q) at new.met.known;
      child = inr (subst (λ q. 0 < slots c q) at new.met.some);
    }

pub after-fits : (c : Configuration) (e : Entry) (tick : ℕ) (x : Thread) → RowFits c x → RowFits c (after_entry e tick x)
after-fits c e tick x fits = record { known = fits.known; low = fits.low; high = fits.high; child = fits.child }

pub family-fits : (c : Configuration) (p : ℕ) (past : List Entry) → IsChecked c → p < length c.processes → Audited c past → FamilyFits c p past
family-fits c p [] checked known audited =
    record {
      numbered = (refl, tt);
      rows =
          λ x h. elim h [
            | inl same ↦ subst (RowFits c) same (record { known = known; low = omega arith; high = checked.slowest p known; child = inl refl })
            | inr none ↦ absurd none
          ];
    }
family-fits c p (e ∷ past) checked known (older, follows) =
    let before = family-fits c p past checked known older in
    let n = length past in
    let old = map (after_entry e n) (family c p past) in
    let new = new_rows c p e past in
    let long : length (family c p past) ≡ 0 + length old = simp length-map (omega arith) in
    record {
      numbered = Numbered-more p 0 old new (Numbered-after p 0 e n (family c p past) before.numbered) (subst (λ k. Numbered p k new) long (new-numbered c p past e follows));
      rows =
          λ x h. elim (has-append old new x h) [
            | inl was ↦ let r = has-map (after_entry e n) (family c p past) x was in subst (RowFits c) r.2 (after-fits c e n r.0 (before.rows r.0 r.1))
            | inr is ↦ new-fits c p past x known (new-row c p e past x follows is)
          ];
    }

-- all threads
pub record ThreadsFit (c : Configuration) (past : List Entry) : Type 0 where
  pub distinct : Distinct (threads c past)
  pub rows : (x : Thread) → Has (threads c past) x → RowFits c x
  pub place : (x : Thread) → Has (threads c past) x → Has (family c x.id.process past) x

pub threads-fit : (c : Configuration) (past : List Entry) → IsChecked c → Audited c past → ThreadsFit c past
threads-fit c past checked audited =
    let f = λ (p : ℕ). family c p past in
    let n = length c.processes in
    record {
      distinct =
          Distinct-flat f 0 n (λ p a b. Numbered-Distinct p 0 (f p) (family-fits c p past checked (omega arith) audited).numbered)
          (λ p x a b h. (Numbered-serial p 0 (f p) x (family-fits c p past checked (omega arith) audited).numbered h).2);
      rows =
          λ x h. let r = has-flat f 0 n x h in
          (family-fits c r.0 past checked (omega (arith, r.1)) audited).rows x r.2;
      place =
          λ x h. let r = has-flat f 0 n x h in
          let own = (Numbered-serial r.0 0 (f r.0) x (family-fits c r.0 past checked (omega (arith, r.1)) audited).numbered r.2).2 in
          subst (λ p. Has (family c p past) x) (sym own) r.2;
    }

-- a row of a known process is among the threads
pub among-threads : (c : Configuration) (past : List Entry) (x : Thread) → x.id.process < length c.processes → Has (family c x.id.process past) x → Has (threads c past) x
among-threads c past x known h =
    flat-has (λ p. family c p past) 0 (length c.processes) x.id.process x (omega arith) (omega arith) h

-- the row stays, as the entry leaves it
pub row-stays : (c : Configuration) (e : Entry) (past : List Entry) (x : Thread) → ThreadsFit c past → Has (threads c past) x
    → Has (threads c (e ∷ past)) (after_entry e (length past) x)
row-stays c e past x fit h =
    let p = x.id.process in
    let known = (fit.rows x h).known in
    let old = map (after_entry e (length past)) (family c p past) in
    let new = cond (is_of (main_id p) e) (made_by c p (length past) e.event) [] in
    among-threads c (e ∷ past) (after_entry e (length past) x) known
    (append-left old new (after_entry e (length past) x) (map-has (after_entry e (length past)) (family c p past) x (fit.place x h)))
