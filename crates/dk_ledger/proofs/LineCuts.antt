-- The lines of a ledger's text are those of its items.
use Rattle.dk_ledger.proofs.Names.{◌≡◌, ◌∙◌, sym, ap, refl, ◌<◌, ℕ, suc, Bool, true, false, List, [], ◌∷◌, ◌++◌, length, arith, append_assoc, append-nil, map, ◌==◌, All, AllByRecursion, list_all, slice_split_at, slice_split_none, length-slice_split, flat_map-append, TableRow, ProcessLine, LedgerLine, Heading, level_body, process_body, level_lines, process_lines, ended, line_body, lines_text, lines_of, end_line, Journal, text_of, lines_in, without_last, end_body, level_bodies, bodies_of, whole, fed, nat_tests}
use Rattle.dk_ledger.proofs.PrintedLines.{is_plain, no_feeds}

levels_fed : (j : ℕ) (rows : List TableRow) → level_lines j rows ≡ fed (level_bodies j rows)
levels_fed j [] = refl
levels_fed j (row ∷ rows) = ap (λ t. ended (level_body j row) ++ t) (levels_fed (suc j) rows)

processes_fed : (ps : List ProcessLine) → process_lines ps ≡ fed (map process_body ps)
processes_fed [] = refl
processes_fed (p ∷ ps) = ap (λ t. ended (process_body p) ++ t) (processes_fed ps)

lines_fed : (h : Heading) (ls : List LedgerLine) → lines_text h ls ≡ fed (map (line_body h) ls)
lines_fed h [] = refl
lines_fed h (l ∷ ls) = ap (λ t. ended (line_body h l) ++ t) (lines_fed h ls)

pub text_fed : (j : Journal) → text_of j ≡ fed (bodies_of (whole j))
text_fed j =
    let levels = level_bodies 0 j.heading.levels in
    let processes = map process_body j.heading.processes in
    let lines = map (line_body j.heading) (lines_of j.entries) in
    let last : List (List ℕ) = end_body (length j.entries) ∷ [] in
    let rest = lines_text j.heading (lines_of j.entries) ++ end_line (length j.entries) in
    let parted : fed (levels ++ (processes ++ (lines ++ last))) ≡ fed levels ++ (fed processes ++ (fed lines ++ fed last)) =
    flat_map-append ended levels (processes ++ (lines ++ last))
    ∙ ap (λ t. fed levels ++ t) (flat_map-append ended processes (lines ++ last) ∙ ap (λ t. fed processes ++ t) (flat_map-append ended lines last)) in
    append_assoc (level_lines 0 j.heading.levels) (process_lines j.heading.processes) rest
    ∙ ap (λ t. t ++ (process_lines j.heading.processes ++ rest)) (levels_fed 0 j.heading.levels)
    ∙ ap (λ t. fed levels ++ (t ++ rest)) (processes_fed j.heading.processes)
    ∙ ap (λ t. fed levels ++ (fed processes ++ (t ++ end_line (length j.entries)))) (lines_fed j.heading (lines_of j.entries))
    ∙ ap (λ t. fed levels ++ (fed processes ++ (fed lines ++ t))) (sym (append-nil (end_line (length j.entries))))
    ∙ sym parted

without_last-cons : (x : List ℕ) (xs : List (List ℕ)) → 0 < length xs → without_last (x ∷ xs) ≡ x ∷ without_last xs
without_last-cons x xs l = grind (arith, nat_tests)

abbrev is_feed : ℕ → Bool
is_feed b = b == 10

pub one_line_before : (b rest : List ℕ) → All (λ c. (c == 10) ≡ false) b → lines_in (b ++ 10 ∷ rest) ≡ b ∷ lines_in rest
one_line_before b rest feeds = grind (arith, nat_tests, length-slice_split, slice_split_at, without_last-cons)

-- the whole lines before some more bytes
pub lines_before : (bodies : List (List ℕ)) (rest : List ℕ) → AllByRecursion (λ b. list_all is_plain b ≡ true) bodies → lines_in (fed bodies ++ rest) ≡ bodies ++ lines_in rest
lines_before [] rest plain = refl
lines_before (b ∷ bodies) rest plain =
    ap lines_in (append_assoc (ended b) (fed bodies) rest ∙ append_assoc b (10 ∷ []) (fed bodies ++ rest))
    ∙ one_line_before b (fed bodies ++ rest) (no_feeds b plain.0) ∙ ap (λ ls. b ∷ ls) (lines_before bodies rest plain.1)

pub no_line : (rest : List ℕ) → All (λ b. (b == 10) ≡ false) rest → lines_in rest ≡ []
no_line rest none = ap without_last (slice_split_none is_feed rest none)
