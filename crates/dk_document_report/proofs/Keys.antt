-- The keys of a table, one by one.
use Rattle.std.proofs.Common.{◌≡◌, ◌∙◌, ℕ, List, map, sym, String, Global, Bor, BTreeMap, string_bytes}
use Rattle.std.specs.Prelude.{flat_map}
use Rattle.std.specs.BTreeMap.{keys}
use Rattle.std.proofs.lemmas.List.Folds.{flat_map-map}
use Rattle.toml.specs.View.{table_view}
use Rattle.toml.specs.declared.value.Value.{Value}
use Rattle.dk_loader.specs.Look.{keys_of}
use Rattle.dk_loader.proofs.Rows.{keys_of-members_view}

-- what each of the keys comes to, of keys that are lent
pub each_key : {B : Type 0} (f : List ℕ → List B) (table : BTreeMap (String Global) Value) (ks : List (Bor (String Global))) → map (λ k. k.now) ks ≡ keys table
    → flat_map (λ k. f (string_bytes k.now)) ks ≡ flat_map f (keys_of (table_view table))
each_key f table ks same =
    sym (rw (keys_of-members_view, ← same) (flat_map-map f string_bytes (map (λ k. k.now) ks) ∙ flat_map-map (λ s. f (string_bytes s)) (λ k. k.now) ks))
