use Rattle.dk_show_request.proofs.Names.{◌≡◌, [], ap, map, string_bytes, true, List, and_parts, App, Row, Text, app_of, fault_of, found_of, is_simple, matches_of, rows_of}
use Rattle.std.proofs.Common.{Some}
use Rattle.dk_show_request.proofs.reading.read.Goals as goal

pub returns-in-Ok : goal.returns-in-Ok
returns-in-Ok c =
    let app : App = app_of c.args.command in
    let words : List Text = map string_bytes c.args.words.now in
    let free : fault_of app words ≡ [] = c.in-Ok.ensures.kinds c.requires.simple in
    let simple : is_simple app ≡ true = (and_parts _ _ c.requires.simple).0 in
    let rows : rows_of (found_of c.in-Ok.matches) ≡ matches_of app words = (c.in-Ok.ensures.matches simple).0 in
    rw (free) (ap (λ (r : List Row). Some r) rows)
