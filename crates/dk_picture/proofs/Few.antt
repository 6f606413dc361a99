-- A picture has few rows.
use Rattle.dk_picture.proofs.Names.{ℕ, ◌≡◌, ◌*◌, ◌<◌, ◌≤◌, [], ◌∷◌, List, length, map, arith, refl, length-append, Bool, true, false, nat_le, ◌==◌, if◌then◌else◌, length-map, below, length-numbers, LedgerLine, Heading, child_rows, children, is_seen, level_of, level_rows, main_rows, process_rows, rows_at_level, rows_of, thread_of_process}
use Rattle.std.specs.Prelude.{flat_map}
use Rattle.dk_picture.specs.declared.rows.Row.TheVariants as row

length-flat_map : {A B : Type 0} (f : A → List B) (k : ℕ) → ((x : A) → length (f x) ≤ k) → (xs : List A) → length (flat_map f xs) ≤ k * length xs
length-flat_map f k few [] = omega arith
length-flat_map f k few (x ∷ xs) =
    let all = length-append (f x) (flat_map f xs) in
    let one = few x in
    let more = length-flat_map f k few xs in
    omega (arith, all, one, more)

few_children : (p : ℕ) (ss : List ℕ) → length (child_rows p ss) ≤ 4
few_children p ss = go (nat_le (length ss) 4) refl
  where
    go : (b : Bool) → nat_le (length ss) 4 ≡ b → length (if b then map (thread_of_process p) ss else row.Children p ∷ []) ≤ 4
    go true few = let own = length-map ss (thread_of_process p) in grind (arith, own, few)
    go false many = omega arith

few_mains : (gs : List LedgerLine) (p : ℕ) → length (main_rows gs p) ≤ 1
few_mains gs p = go (is_seen gs p)
  where
    go : (b : Bool) → length (if b then thread_of_process p 0 ∷ [] else []) ≤ 1
    go true = omega arith
    go false = omega arith

few_at_level : (h : Heading) (gs : List LedgerLine) (j p : ℕ) → length (rows_at_level h gs j p) ≤ 5
few_at_level h gs j p = go (level_of h p == j)
  where
    go : (b : Bool) → length (if b then process_rows gs p else []) ≤ 5
    go true =
        let few = few_children p (children gs p) in
        let main = few_mains gs p in
        let all = length-append (main_rows gs p) (child_rows p (children gs p)) in
        omega (arith, few, main, all)
    go false = omega arith

few_of_level : (h : Heading) (gs : List LedgerLine) (j : ℕ) → length h.processes ≤ 32 → length (level_rows h gs j) ≤ 160
few_of_level h gs j few =
    let all = length-flat_map (rows_at_level h gs j) 5 (few_at_level h gs j) (below (length h.processes)) in
    let count = length-numbers 0 (length h.processes) in
    omega (arith, all, count, few)

pub few_rows : (h : Heading) (gs : List LedgerLine) → length h.levels ≤ 12 → length h.processes ≤ 32 → length (rows_of h gs) < 65536
few_rows h gs levels processes =
    let all = length-flat_map (level_rows h gs) 160 (λ j. few_of_level h gs j processes) (below (length h.levels)) in
    let count = length-numbers 0 (length h.levels) in
    omega (arith, all, count, levels)
