-- The texts of the groups that have been written, and of those that come.
use Rattle.std.proofs.Common.{ℕ, ◌≡◌, ◌∙◌, ◌++◌, [], ◌∷◌, List, ap, sym, refl, subst, arith, append_assoc, append-nil}
use Rattle.std.specs.Prelude.{Option, Some, None, Ok, true, false, flat_map}
use Rattle.std.proofs.lemmas.Grind.{flat_map-append}
use Rattle.dk_outside.specs.Views.{SinkView}
use Rattle.dk_outside.specs.Written.{Appends, Writes}
use Rattle.dk_ledger.specs.declared.line.LedgerLine.{LedgerLine}
use Rattle.dk_ledger.specs.Readable.{Journal, IsReadable}
use Rattle.dk_groups.specs.Groups.{groups}
use Rattle.dk_groups.specs.Cutting.{Cutting, ComesNext}
use Rattle.dk_groups.proofs.NextLine.{groups_in_order}

-- A text of groups, with another group behind them, or with more.
module _ (text : List LedgerLine → List ℕ) (rest : List LedgerLine → List LedgerLine → List ℕ)
    (parts : (gs ks : List LedgerLine) → text (gs ++ ks) ≡ text gs ++ rest gs ks) where
  -- that of all groups, by that of those so far, what the next adds, and more
  pub all_texts : (j : Journal) (gs : List LedgerLine) (g : LedgerLine) (own : List ℕ) (c : Cutting) (from to : ℕ) → IsReadable j → ComesNext j gs (Some g) c → c.from ≡ from → c.to ≡ to
      → text (gs ++ g ∷ []) ≡ text gs ++ own → (more : List ℕ) × (text (groups from to j.entries) ≡ text gs ++ (own ++ more))
  all_texts j gs g own c from to readable comes is_from is_to one_more =
      let all = groups_in_order j (gs ++ g ∷ []) c readable comes.0 in
      let more = rest (gs ++ g ∷ []) all.0 in (
        more,
        ap (λ n. text (groups n to j.entries)) (sym is_from) ∙ ap (λ n. text (groups c.from n j.entries)) (sym is_to)
            ∙ ap text all.1 ∙ parts (gs ++ g ∷ []) all.0 ∙ ap (λ t. t ++ more) one_more ∙ append_assoc (text gs) own more,
      )

module _ (f : LedgerLine → List ℕ) where
  pub more_text : (gs : List LedgerLine) (g : LedgerLine) → flat_map f (gs ++ g ∷ []) ≡ flat_map f gs ++ f g
  more_text gs g = flat_map-append f gs (g ∷ []) ∙ ap (λ t. flat_map f gs ++ t) (append-nil (f g))

  pub whole_text : (j : Journal) (gs : List LedgerLine) (g : LedgerLine) (c : Cutting) (from to : ℕ) → IsReadable j → ComesNext j gs (Some g) c → c.from ≡ from → c.to ≡ to
      → (more : List ℕ) × (flat_map f (groups from to j.entries) ≡ flat_map f gs ++ (f g ++ more))
  whole_text j gs g c from to readable comes is_from is_to =
      all_texts (flat_map f) (λ _ ks. flat_map f ks) (flat_map-append f) j gs g (f g) c from to readable comes is_from is_to (more_text gs g)

pub nothing_put : (o : Option (List ℕ)) → Appends o o []
nothing_put None = refl
nothing_put (Some w) = ap (λ t. Some t) (sym (append-nil w))

-- of an empty text nothing is written
pub nothing_written : {A E : Type 0} (s : SinkView) (x : A) (t : List ℕ) → t ≡ [] → Writes {E = E} s s (Ok x) t
nothing_written s x t none = record {
  ok = subst (Appends s.written s.written) (sym none) (nothing_put s.written);
  err = tt;
  cause = λ fails. absurd (let no : false ≡ true = fails in cc);
  stays = refl;
  faults = omega arith;
  same = refl;
}

-- texts that are made word by word
pub extend : (old one two x y : List ℕ) → one ≡ old ++ x → two ≡ one ++ y → two ≡ old ++ (x ++ y)
extend old one two x y first second = second ∙ ap (λ t. t ++ y) first ∙ append_assoc old x y
