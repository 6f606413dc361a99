-- Lines and columns of a text, both from 1.
use Rattle.std.specs.Prelude.{ℕ, ◌+◌, ◌==◌, ◌&&◌, Bool, nat_lt, nat_le, if◌then◌else◌, List, [], ◌∷◌}
use Rattle.dk_document_report.specs.declared.place.Place.{Place}

-- a byte of UTF-8 that goes on with a character
abbrev pub goes_on : ℕ → Bool
goes_on b = nat_le 128 b && nat_lt b 192

-- the place after one byte more
abbrev pub next_place : Place → ℕ → Place
next_place p b =
    if b == 10 then (record { line = p.line + 1; column = 1 })
    else if goes_on b then p
    else (record { line = p.line; column = p.column + 1 })

abbrev pub place_from : Place → List ℕ → Place
place_from p [] = p
place_from p (b ∷ bs) = place_from (next_place p b) bs

-- the place after these bytes
abbrev pub place_after : List ℕ → Place
place_after before = place_from (record { line = 1; column = 1 }) before
