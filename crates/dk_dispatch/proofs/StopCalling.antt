-- Who calls in a charged tick, and a delete by a caller.
use Rattle.dk_dispatch.proofs.Names.{◌≡◌, ◌∙◌, ◌&&◌, not, inl, inr, Bool, true, false, eqb, ℕ, Option, Some, None, refl, ap, sym, subst, arith, if◌then◌else◌, option_map_or, cases_Bool, and_parts, nat_tests, ThreadId, Label, Event, Refusal, is_same, main_of, thread_of, same-id, find-has, ThreadRow, is_row_of, Table, rows_of, find_row, runs, is_child, entry_of, running_child, child_of, delete_refusal_in, StopsChild}
use Rattle.std.proofs.Common.{is_none}

-- a running child's row
pub record IsRunning (table : Table) (child : ThreadId) (row : ThreadRow) : Type 0 where
  pub id : row.id ≡ child
  pub found : find_row table row.id ≡ Some row
  pub is-child : is_child row.id ≡ true
  pub runs : runs table row.id ≡ true

pub running-is : (table : Table) (child : ThreadId) (row : ThreadRow) → running_child table child ≡ Some row → IsRunning table child row
running-is table child row is =
    elim (cases_Bool (is_child child && runs table child)) [
      | inl on ↦
          let found : find_row table child ≡ Some row = rw on at is in
          let parts = and_parts (is_child child) (runs table child) on in
          let name : child ≡ row.id = same-id child row.id (find-has (is_row_of child) (rows_of table child.process) row found).1 in
          record {
            id = sym name;
            found = subst (λ i. find_row table i ≡ Some row) name found;
            is-child = subst (λ i. is_child i ≡ true) name parts.0;
            runs = subst (λ i. runs table i ≡ true) name parts.1;
          }
      | inr off ↦ let none : None ≡ Some row = rw off at is in absurd (cc)
    ]

-- a delete that isn't refused has its main and its child
pub record IsDeleted (table : Table) (x : ThreadId) (serial : ℕ) : Type 0 where
  pub main : eqb x.serial 0 ≡ true
  pub row : ThreadRow
  pub running : running_child table (child_of x serial) ≡ Some row

pub deleted-is : (table : Table) (x : ThreadId) (serial : ℕ) → delete_refusal_in table x serial ≡ None → IsDeleted table x serial
deleted-is table x serial none =
    elim (cases_Bool (eqb x.serial 0)) [
      | inr child ↦ let some : Some Refusal.NotMain ≡ None = rw child at none in absurd (cc)
      | inl main ↦ go main (running_child table (child_of x serial)) refl
    ]
  where
    go : eqb x.serial 0 ≡ true → (o : Option ThreadRow) → running_child table (child_of x serial) ≡ o → IsDeleted table x serial
    go main (Some row) at = record { main = main; row = row; running = at }
    go main None at =
        let some : Some Refusal.NoThread ≡ None =
        sym (ap (λ b. if b then Some Refusal.NoThread else None) (ap is_none at))
        ∙ sym (ap (λ b. if not b then Some Refusal.NotMain else (if is_none (running_child table (child_of x serial)) then Some Refusal.NoThread else None)) main)
        ∙ none in
        absurd (cc)

pub deletes-child : (label : Label) (x : ThreadId) (serial : ℕ) (row : ThreadRow) → option_map_or (is_same x) (thread_of label) false ≡ true → eqb x.serial 0 ≡ true
    → row.id ≡ child_of x serial → is_child row.id ≡ true → StopsChild (entry_of label (Event.Delete serial)) row.id
deletes-child label x serial row mine main id child =
    subst (StopsChild (entry_of label (Event.Delete serial))) (sym id) (record {
      child = not-on (eqb serial 0) (sym (ap is_child id) ∙ child);
      cause = inr (subst (λ i. option_map_or (is_same i) (thread_of label) false ≡ true) own mine, refl);
    })
  where
    not-on : (b : Bool) → not b ≡ true → b ≡ false
    not-on true h = absurd (cc)
    not-on false h = refl

    own : x ≡ main_of (child_of x serial)
    own = (let zero-serial : x.serial ≡ 0 = grind (arith, nat_tests) in ap (λ k. record { process = x.process; serial = k }) zero-serial)
