-- The reason that is told holds of the words.
use Rattle.dk_show_request.proofs.Names.{ℕ, suc, ◌≡◌, ◌<◌, ◌+◌, ◌==◌, ◌∙◌, true, false, List, [], ◌∷◌, length, refl, sym, subst, arith, inl, inr, ◌-◌, ◌&&◌, ◌||◌, not, Option, Some, None, find, is_some, nat_lt, slice_get, unwrap_or, if◌then◌else◌, option_map_or, cases_Bool, and_parts, nat_tests, find_at, position_or_len, MAX_PROCESSES, Form, Kind, takes_several, takes_ticks, ticks_in, flags_text, arguments, ends_bare, dashed, has_flags, has_options, is_flag, is_mark, is_option, is_plain_word, is_unfit, unfit_word, word_at, bytes_eq, filter, list_any, allotments_reason, again_reason, allotting, has_same_name, is_no_allotment, is_no_command, option_word, option_filter, is_no_percent, percent_in, percent_reason, no_percent_word, codes, form_named, naming, commands_reason, name_in, repeated_name, ticks_behind, Reason, count_reason, has_many_names, is_below, is_disordered, is_no_ticks, mark_reason, missing_name, names_reason, no_ticks_word, order_reason, surplus_reason, surplus_word, ticks_reason, unfit_reason, AreNotBelow, HoldsOf, LeavesOut, ReasonsHold, StandsIn}
use Rattle.std.proofs.Common.{Bool, ◌≤◌, ◌⊎◌}
use Rattle.std.specs.Prelude.{drop}
use Rattle.std.proofs.lemmas.Slice.Eq.{bytes_eq-Decides}
use Rattle.dk_show_request.specs.declared.table.Kind.TheVariants as kind

or_else : {X : Type 0} (P : Reason → Type 0) (g : X → Reason) (o : Option X) (d : Reason)
    → ((x : X) → o ≡ Some x → P (g x)) → (o ≡ None → P d) → P (option_map_or g o d)
or_else P g None d some none = none refl
or_else P g (Some x) d some none = some x refl

if_so : (P : Reason → Type 0) (b : Bool) (r d : Reason) → (b ≡ true → P r) → (b ≡ false → P d) → P (if b then r else d)
if_so P true r d on_true on_false = on_true refl
if_so P false r d on_true on_false = on_false refl

stands : (p : List ℕ → Bool) (ws : List (List ℕ)) (w : List ℕ) → find p ws ≡ Some w → StandsIn ws w
stands p ws w e = (position_or_len p ws, sym (find_at p ws) ∙ e)

passes : (p : List ℕ → Bool) (ws : List (List ℕ)) (w : List ℕ) → find p ws ≡ Some w → p w ≡ true
passes p [] w h = absurd (cc)
passes p (v ∷ ws) w h = go (p v) refl (passes p ws w) h
  where
    go : (t : Bool) → p v ≡ t → (find p ws ≡ Some w → p w ≡ true) → (if t then Some v else find p ws) ≡ Some w → p w ≡ true
    go true is rest h = let same : v ≡ w = cc in subst (λ k. p k ≡ true) same is
    go false is rest h = rest h

neither : (a b : Bool) → not (a || b) ≡ true → (a ≡ false) × (b ≡ false)
neither false false h = (refl, refl)
neither false true h = absurd (cc)
neither true b h = absurd (cc)

none_in : (o : Option ℕ) → not (is_some o) ≡ true → o ≡ None
none_in None h = refl
none_in (Some n) h = absurd (cc)

empty_word : (w : List ℕ) → (length w == 0) ≡ true → w ≡ []
empty_word [] h = refl
empty_word (b ∷ bs) h = absurd (grind (arith, nat_tests))

left_out : (f : Form) (n : ℕ) (name : List ℕ) → missing_name f n ≡ Some name → LeavesOut f n name
left_out f n name e =
    elim (cases_Bool (nat_lt n (length f.needed))) [
      | inl a ↦ inl (rw a at e)
      | inr a ↦ elim (cases_Bool (n == length f.needed)) [
        | inl b ↦ let no : None ≡ Some name = rw (a, b) at e in absurd (cc)
        | inr b ↦ let below : length f.needed < n = grind (arith, nat_tests) in inr (below, rw (a, b) at e)
      ]
    ]

too_many : (f : Form) (ps ws : List (List ℕ)) (w : List ℕ) → surplus_word f ps ≡ Some w → HoldsOf f ps ws (Reason.surplus w)
too_many f ps ws w e =
    elim (cases_Bool (takes_several f.kind)) [
      | inl several ↦ let no : None ≡ Some w = rw several at e in absurd (cc)
      | inr one ↦ (one, rw one at e)
    ]

no_number : (f : Form) (ps ws : List (List ℕ)) (w : List ℕ) → no_ticks_word f ps ≡ Some w → HoldsOf f ps ws (Reason.no_ticks w)
no_number f ps ws w e =
    elim (cases_Bool (takes_ticks f.kind)) [
      | inl a ↦ let found : find is_no_ticks (drop 1 ps) ≡ Some w = rw a at e in
          (a, stands is_no_ticks (drop 1 ps) w found, none_in (ticks_in w) (passes is_no_ticks (drop 1 ps) w found))
      | inr a ↦ let no : None ≡ Some w = rw a at e in absurd (cc)
    ]

not_below : (from to : List ℕ) → find is_no_ticks (from ∷ to ∷ []) ≡ None → not (is_below (ticks_in from) (ticks_in to)) ≡ true → AreNotBelow from to
not_below from to e h = go (ticks_in from) (ticks_in to) refl refl e h
  where
    go : (x y : Option ℕ) → ticks_in from ≡ x → ticks_in to ≡ y
        → (if not (is_some x) then Some from else if not (is_some y) then Some to else None) ≡ None
        → not (is_below x y) ≡ true → AreNotBelow from to
    go None y is_x is_y e h = absurd (cc)
    go (Some m) None is_x is_y e h = absurd (cc)
    go (Some m) (Some n) is_x is_y e h = (m, n, is_x, is_y, grind (arith, nat_tests))

-- the last word, where it is an option
ended : (f : Form) (ws : List (List ℕ)) → ends_bare f ws ≡ true
    → (slice_get ws (length ws - 1) ≡ Some (word_at ws (length ws - 1))) × (is_option f (word_at ws (length ws - 1)) ≡ true)
ended f ws h = go (slice_get ws (length ws - 1)) h
  where
    go : (o : Option (List ℕ)) → option_map_or (is_option f) o false ≡ true
        → (o ≡ Some (unwrap_or o [])) × (is_option f (unwrap_or o []) ≡ true)
    go None h = absurd (cc)
    go (Some w) h = (refl, h)

marks : (f : Form) (ps ws : List (List ℕ)) → HoldsOf f ps ws (mark_reason f ws)
marks f ps ws =
    let P = λ (r : Reason). HoldsOf f ps ws r in
    let last = word_at ws (length ws - 1) in
    let bare = if ends_bare f ws then Reason.bare last else Reason.other in
    if_so P (has_flags f ws) (Reason.repeated (flags_text f.flags)) (if has_options f ws then Reason.repeated (dashed f.option) else bare)
    (λ twice. inl (refl, grind (arith, nat_tests)))
    (λ _. if_so P (has_options f ws) (Reason.repeated (dashed f.option)) bare
    (λ twice. inr (refl, grind (arith, nat_tests)))
    (λ once. if_so P (ends_bare f ws) (Reason.bare last) Reason.other (ended f ws) (λ _. tt)))

-- what the allotments of a command are among its words
behind_in : (f : Form) (behind : Bool) (ws : List (List ℕ)) (w : List ℕ) → option_word f behind ws ≡ Some w → StandsIn ws w
behind_in f behind [] w e = absurd (cc)
behind_in f behind (v ∷ ws) w e =
    elim (cases_Bool behind) [
      | inl is ↦ let found : Some v ≡ Some w = rw is at e in (0, found)
      | inr not_yet ↦ let rest = behind_in f (is_option f v) ws w (rw not_yet at e) in (suc rest.0, rest.1)
    ]

no_percent_in : (o : Option ℕ) → not (is_some o) ≡ true → o ≡ None
no_percent_in None h = refl
no_percent_in (Some n) h = absurd (cc)

no_percents : (f : Form) (ps ws : List (List ℕ)) (w : List ℕ) → no_percent_word f ws ≡ Some w → HoldsOf f ps ws (Reason.no_percent w)
no_percents f ps ws w e =
    elim (cases_Bool (bytes_eq f.option (codes "reserve"))) [
      | inl reserves ↦ go (option_word f false ws) refl (rw reserves at e)
      | inr other ↦ let no : None ≡ Some w = rw other at e in absurd (cc)
    ]
  where
    go : (o : Option (List ℕ)) → option_word f false ws ≡ o → option_filter is_no_percent o ≡ Some w → StandsIn ws w × (percent_in w ≡ None)
    go None is e = absurd (cc)
    go (Some v) is e =
        elim (cases_Bool (is_no_percent v)) [
          | inl bad ↦
              let found : Some v ≡ Some w = rw bad at e in
              let same : v ≡ w = cc in
              (behind_in f false ws w (is ∙ found), no_percent_in (percent_in w) (subst (λ (k : List ℕ). is_no_percent k ≡ true) same bad))
          | inr good ↦ let no : None ≡ Some w = rw good at e in absurd (cc)
        ]

percented : (f : Form) (ps ws : List (List ℕ)) → HoldsOf f ps ws (percent_reason f ws)
percented f ps ws =
    or_else (λ (r : Reason). HoldsOf f ps ws r) Reason.no_percent (no_percent_word f ws) (mark_reason f ws)
    (no_percents f ps ws) (λ _. marks f ps ws)

no_command_in : (k : Kind) (ps ws : List (List ℕ)) (f : Form) (w : List ℕ) → find is_no_command (naming k ps) ≡ Some w
    → HoldsOf f ps ws (Reason.no_command w)
no_command_in kind.Commands ps ws f w e =
    (stands is_no_command ps w e, no_form (form_named w) (passes is_no_command ps w e))
  where
    no_form : (o : Option Form) → not (is_some o) ≡ true → o ≡ None
    no_form None h = refl
    no_form (Some g) h = absurd (cc)
no_command_in kind.Words ps ws f w e = absurd (cc)
no_command_in kind.Ticks ps ws f w e = absurd (cc)
no_command_in kind.Names ps ws f w e = absurd (cc)
no_command_in kind.Processes ps ws f w e = absurd (cc)
no_command_in kind.Allotments ps ws f w e = absurd (cc)

commanded : (f : Form) (ps ws : List (List ℕ)) → HoldsOf f ps ws (commands_reason f ps ws)
commanded f ps ws =
    or_else (λ (r : Reason). HoldsOf f ps ws r) Reason.no_command (find is_no_command (naming f.kind ps)) (percent_reason f ws)
    (no_command_in f.kind ps ws f) (λ _. percented f ps ws)

allots : (k : Kind) (ps : List (List ℕ)) → (allotting k ps ≡ drop 1 ps) ⊎ (allotting k ps ≡ [])
allots kind.Allotments ps = inl refl
allots kind.Words ps = inr refl
allots kind.Ticks ps = inr refl
allots kind.Names ps = inr refl
allots kind.Processes ps = inr refl
allots kind.Commands ps = inr refl

no_allot : (f : Form) (ps ws : List (List ℕ)) (w : List ℕ) → find is_no_allotment (allotting f.kind ps) ≡ Some w
    → HoldsOf f ps ws (Reason.no_allotment w)
no_allot f ps ws w e =
    elim (allots f.kind ps) [
      | inl is ↦
          let found : find is_no_allotment (drop 1 ps) ≡ Some w = subst (λ (l : List (List ℕ)). find is_no_allotment l ≡ Some w) is e in
          (stands is_no_allotment (drop 1 ps) w found, none_in (ticks_behind w) (passes is_no_allotment (drop 1 ps) w found))
      | inr is ↦
          let no : None ≡ Some w = subst (λ (l : List (List ℕ)). find is_no_allotment l ≡ Some w) is e in absurd (cc)
    ]

some_pass : (p : List ℕ → Bool) (ws : List (List ℕ)) → list_any p ws ≡ true → 0 < length (filter p ws)
some_pass p [] h = absurd (cc)
some_pass p (w ∷ ws) h =
    elim (cases_Bool (p w)) [
      | inl is ↦ rw is (omega arith)
      | inr isnt ↦ rw isnt (some_pass p ws (rw isnt at h))
    ]

more_pass : (p : List ℕ → Bool) (w : List ℕ) (ws : List (List ℕ)) → length (filter p ws) ≤ length (filter p (w ∷ ws))
more_pass p w ws =
    elim (cases_Bool (p w)) [
      | inl is ↦ rw is (omega arith)
      | inr isnt ↦ rw isnt (omega arith)
    ]

twice : (ws : List (List ℕ)) (name : List ℕ) → repeated_name ws ≡ Some name → 1 < length (filter (λ w. bytes_eq name (name_in w)) ws)
twice [] name e = absurd (cc)
twice (w ∷ ws) name e =
    elim (cases_Bool (list_any (has_same_name w) ws)) [
      | inl again ↦
          let some : Some (name_in w) ≡ Some name = rw again at e in
          let same : name_in w ≡ name = cc in
          subst (λ (n : List ℕ). 1 < length (filter (λ v. bytes_eq n (name_in v)) (w ∷ ws))) same
          (rw ((bytes_eq-Decides (name_in w) (name_in w)).1 refl) (let rest = some_pass (has_same_name w) ws again in omega (arith, rest)))
      | inr once ↦
          let found : repeated_name ws ≡ Some name = rw once at e in
          let rest = twice ws name found in
          let more = more_pass (λ v. bytes_eq name (name_in v)) w ws in
          omega (arith, rest, more)
    ]

allotted_twice : (f : Form) (ps ws : List (List ℕ)) (name : List ℕ) → repeated_name (allotting f.kind ps) ≡ Some name
    → HoldsOf f ps ws (Reason.allotted_again name)
allotted_twice f ps ws name e =
    elim (allots f.kind ps) [
      | inl is ↦ twice (drop 1 ps) name (subst (λ (l : List (List ℕ)). repeated_name l ≡ Some name) is e)
      | inr is ↦ let no : None ≡ Some name = subst (λ (l : List (List ℕ)). repeated_name l ≡ Some name) is e in absurd (cc)
    ]

allotments : (f : Form) (ps ws : List (List ℕ)) → HoldsOf f ps ws (allotments_reason f ps ws)
allotments f ps ws =
    let P = λ (r : Reason). HoldsOf f ps ws r in
    or_else P Reason.no_allotment (find is_no_allotment (allotting f.kind ps)) (again_reason f ps ws) (no_allot f ps ws)
    (λ _. or_else P Reason.allotted_again (repeated_name (allotting f.kind ps)) (commands_reason f ps ws) (allotted_twice f ps ws)
    (λ _. commanded f ps ws))

many : (k : Kind) (ps : List (List ℕ)) → has_many_names k ps ≡ true → MAX_PROCESSES < length (drop 1 ps)
many kind.Processes ps h = grind (arith, nat_tests)
many kind.Words ps h = absurd (cc)
many kind.Ticks ps h = absurd (cc)
many kind.Names ps h = absurd (cc)
many kind.Allotments ps h = absurd (cc)
many kind.Commands ps h = absurd (cc)

names : (f : Form) (ps ws : List (List ℕ)) → HoldsOf f ps ws (names_reason f ps ws)
names f ps ws =
    if_so (HoldsOf f ps ws) (has_many_names f.kind ps) Reason.many_names (allotments_reason f ps ws)
    (many f.kind ps) (λ _. allotments f ps ws)

last_two : (ps : List (List ℕ)) → length ps ≡ 3 → drop 1 ps ≡ word_at ps 1 ∷ word_at ps 2 ∷ []
last_two [] three = absurd (omega arith)
last_two (a ∷ []) three = absurd (omega arith)
last_two (a ∷ b ∷ []) three = absurd (omega arith)
last_two (a ∷ b ∷ d ∷ []) three = refl
last_two (a ∷ b ∷ d ∷ e ∷ more) three = absurd (omega arith)

disordered : (f : Form) (ps ws : List (List ℕ)) → no_ticks_word f ps ≡ None → is_disordered f ps ≡ true
    → HoldsOf f ps ws (Reason.disorder (word_at ps 1) (word_at ps 2))
disordered f ps ws e h =
    let parts = and_parts (takes_ticks f.kind && (length ps == 3)) (not (is_below (ticks_in (word_at ps 1)) (ticks_in (word_at ps 2)))) h in
    let kind = and_parts (takes_ticks f.kind) (length ps == 3) parts.0 in
    let same : (length ps == 3) ≡ true = kind.1 in
    let three : length ps ≡ 3 = grind (arith, nat_tests) in
    let none : find is_no_ticks (drop 1 ps) ≡ None = rw kind.0 at e in
    (kind.0, last_two ps three, not_below (word_at ps 1) (word_at ps 2) (rw (last_two ps three) at none) parts.1)

ordered : (f : Form) (ps ws : List (List ℕ)) → no_ticks_word f ps ≡ None
    → HoldsOf f ps ws (order_reason f ps ws)
ordered f ps ws e =
    if_so (HoldsOf f ps ws) (is_disordered f ps) (Reason.disorder (word_at ps 1) (word_at ps 2)) (names_reason f ps ws)
    (disordered f ps ws e) (λ _. names f ps ws)

counted : (f : Form) (ps ws : List (List ℕ)) → HoldsOf f ps ws (count_reason f ps ws)
counted f ps ws =
    let P = λ (r : Reason). HoldsOf f ps ws r in
    or_else P Reason.missing (missing_name f (length ps)) (surplus_reason f ps ws) (left_out f (length ps))
    (λ _. or_else P Reason.surplus (surplus_word f ps) (ticks_reason f ps ws) (too_many f ps ws)
    (λ _. or_else P Reason.no_ticks (no_ticks_word f ps) (order_reason f ps ws) (no_number f ps ws) (ordered f ps ws)))

unfit : (f : Form) (ps ws : List (List ℕ)) (w : List ℕ) → unfit_word f ws ≡ Some w → HoldsOf f ps ws (unfit_reason w)
unfit f ps ws w e =
    if_so (HoldsOf f ps ws) (length w == 0) Reason.empty (Reason.no_flag w)
    (λ none. subst (StandsIn ws) (empty_word w none) (stands (is_unfit f) ws w e))
    (λ _. let parts = neither (is_mark f w) (is_plain_word w) (passes (is_unfit f) ws w e) in
    (stands (is_unfit f) ws w e, parts.1, parts.0))

pub reasons_hold : ReasonsHold
reasons_hold f ws =
    or_else (HoldsOf f (arguments f ws) ws) unfit_reason (unfit_word f ws) (count_reason f (arguments f ws) ws)
    (unfit f (arguments f ws) ws) (λ _. counted f (arguments f ws) ws)
