-- The fields of a table, and what contracts see of it, after each change.
use Rattle.dk_slack.proofs.Names.{◌≡◌, ℕ, zero, suc, ◌-◌, ◌*◌, ◌<◌, ◌≤◌, false, ◌&&◌, List, [], ◌∷◌, map, length, set, replicate, IsSome, IsNone, refl, sym, ap, ◌∙◌, arith, length-set, nat_lt, None, le-ltb, lt-ltb, length-map, length-replicate, MAX_COST, MAX_LEVELS, Queues, holder, pushed, unlinked, without, Wanted, wish_of, want, is_entering, dropped, put_last, lowered_for, Slack, row_of, wish_at, wishes_in, is_queued, IsSound, nat_tests}
use Rattle.dk_slack.proofs.Queued.{holder-queued, tied-removed, tied-put, tied-lowered}
use Rattle.dk_slack.proofs.Wished.{wishes-removed, wishes-put, wishes-lowered, want-in, no_wish-in, entering-in, free-in, low-in, queued-in}

abbrev pub table_of : Queues → List Wanted → ℕ → List ℕ → List ℕ → Slack
table_of q rows w us zs = record { nodes = q.nodes; switch = w; wishes = wishes_in rows q.lists; unclaimed = us; spares = zs }

module _ (q : Queues) (rows : List Wanted) (w : ℕ) (us zs : List ℕ) (t : Slack) (sound : IsSound q rows w zs) (is : table_of q rows w us zs ≡ t) (x : ℕ) where
  wants : want x t.wishes ≡ want x (wishes_in rows q.lists)
  wants = sym (ap (λ (v : Slack). want x v.wishes) is)

  pub amount-is : want x t.wishes ≡ (row_of rows x).amount
  amount-is = wants ∙ want-in rows x q.lists sound.tied

  pub no_wish : (row_of rows x).amount ≡ 0 → wish_of x t.wishes ≡ None
  no_wish none = sym (ap (λ (v : Slack). wish_of x v.wishes) is) ∙ no_wish-in rows x q.lists sound.tied none

  pub entering-is : is_entering x t.wishes ≡ (nat_lt 0 (row_of rows x).amount && nat_lt 0 (row_of rows x).entering)
  entering-is = sym (ap (λ (v : Slack). is_entering x v.wishes) is) ∙ entering-in rows x q.lists sound.tied

  -- of a row that was read
  module _ (r : Wanted) (read : r ≡ row_of rows x) where
    pub amount-read : want x t.wishes ≡ r.amount
    amount-read = amount-is ∙ sym (ap (λ (v : Wanted). v.amount) read)

    pub no_wish-read : r.amount ≡ 0 → wish_of x t.wishes ≡ None
    no_wish-read none = no_wish (sym (ap (λ (v : Wanted). v.amount) read) ∙ none)

    pub entering-read : 0 < r.amount → nat_lt 0 r.entering ≡ is_entering x t.wishes
    entering-read some = grind (arith, nat_tests, lt-ltb, entering-is)

    pub nothing-read : r.amount ≤ 0 → nat_lt 0 r.amount ≡ is_entering x t.wishes
    nothing-read none = grind (arith, nat_tests, le-ltb, entering-is)

  pub queued : 0 < want x t.wishes → IsSome (holder q.lists x)
  queued some = holder-queued q.lists x ∙ queued-in rows x q.lists sound.tied (omega (arith, wants))

  pub low : 0 < want x t.wishes → x < length rows
  low some = low-in rows x q.lists sound.tied (omega (arith, wants))

  pub node-low : x < t.nodes → x < length rows
  node-low h = let nodes : q.nodes ≡ length rows = sound.nodes in omega (arith, ap (λ (v : Slack). v.nodes) is)

  pub free : want x t.wishes ≡ 0 → IsNone (holder q.lists x)
  free none = holder-queued q.lists x ∙ free-in rows x q.lists sound.tied (sym wants ∙ none)

  -- the node is unlinked
  pub sound-removed : (p : Queues) → p.nodes ≡ q.nodes → p.lists ≡ unlinked q.lists x → 0 < want x t.wishes → IsSound p (set rows x (record { amount = 0; entering = 0 })) w zs
  sound-removed p nodes lists some =
      let r : Wanted = record { amount = 0; entering = 0 } in record {
        nodes = nodes ∙ sound.nodes ∙ sym (length-set rows x r);
        levels = ap length lists ∙ length-map q.lists (without x) ∙ sound.levels;
        few_levels = sound.few_levels;
        few_ticks = sound.few_ticks;
        tied = rw lists (tied-removed rows q.lists x (low some) r refl sound.tied);
      }

  pub table-removed : (p : Queues) → p.nodes ≡ q.nodes → p.lists ≡ unlinked q.lists x
      → table_of p (set rows x (record { amount = 0; entering = 0 })) w us zs ≡ record t { wishes = dropped x t.wishes }
  table-removed p nodes lists =
      rw (nodes, lists, wishes-removed rows x (record { amount = 0; entering = 0 }) q.lists)
      (ap (λ (v : Slack). record { nodes = v.nodes; switch = v.switch; wishes = dropped x v.wishes; unclaimed = v.unclaimed; spares = v.spares }) is)

  -- the node is pushed
  module _ (p : Queues) (k : ℕ) (r : Wanted) (nodes : p.nodes ≡ q.nodes) (lists : p.lists ≡ pushed q.lists k x) (here : x < t.nodes) (inside : k < length t.wishes) (none : want x t.wishes ≡ 0) where
    level-inside : k < length q.lists
    level-inside = omega (arith, ap (λ (v : Slack). length v.wishes) is, length-map q.lists (map (wish_at rows)))

    pub sound-put : 0 < r.amount → IsSound p (set rows x r) w zs
    sound-put some = record {
      nodes = nodes ∙ sound.nodes ∙ sym (length-set rows x r);
      levels = ap length lists ∙ length-set q.lists k _ ∙ sound.levels;
      few_levels = sound.few_levels;
      few_ticks = sound.few_ticks;
      tied = rw lists (tied-put rows q.lists x (node-low here) k r level-inside some sound.tied);
    }

    pub table-put : r.entering ≡ 2 * w → table_of p (set rows x r) w us zs ≡ record t { wishes = put_last k (record { node = x; amount = r.amount; entering = 2 * t.switch }) t.wishes }
    table-put ticks =
        rw (nodes, lists, wishes-put rows x k r q.lists (node-low here) level-inside (free-in rows x q.lists sound.tied (sym wants ∙ none)), ticks)
        (ap (λ (v : Slack). record { nodes = v.nodes; switch = v.switch; wishes = put_last k (record { node = x; amount = r.amount; entering = 2 * v.switch }) v.wishes; unclaimed = v.unclaimed; spares = v.spares }) is)

  -- so many ticks are taken from the wish
  module _ (n : ℕ) (r : Wanted) (more : n < want x t.wishes) where
    pub sound-lowered : 0 < r.amount → IsSound q (set rows x r) w zs
    sound-lowered left = record {
      nodes = sound.nodes ∙ sym (length-set rows x r);
      levels = sound.levels;
      few_levels = sound.few_levels;
      few_ticks = sound.few_ticks;
      tied = tied-lowered rows q.lists x (low (omega arith)) r (omega (arith, amount-is)) left sound.tied;
    }

    pub table-lowered : r ≡ record { amount = (row_of rows x).amount - n; entering = (row_of rows x).entering - n }
        → table_of q (set rows x r) w us zs ≡ record t { wishes = map (map (lowered_for x n)) t.wishes }
    table-lowered less =
        rw (less, wishes-lowered rows x n (low (omega arith)) q.lists)
        (ap (λ (v : Slack). record { nodes = v.nodes; switch = v.switch; wishes = map (map (lowered_for x n)) v.wishes; unclaimed = v.unclaimed; spares = v.spares }) is)

-- nobody asks for slack
none_queued : (k x : ℕ) → is_queued (replicate k []) x ≡ false
none_queued zero x = refl
none_queued (suc k) x = none_queued k x

none_asks : (n x : ℕ) → row_of (replicate n (record { amount = 0; entering = 0 })) x ≡ record { amount = 0; entering = 0 }
none_asks zero x = refl
none_asks (suc n) zero = refl
none_asks (suc n) (suc x) = none_asks n x

no_wishes : (rows : List Wanted) (k : ℕ) → wishes_in rows (replicate k []) ≡ replicate k []
no_wishes rows zero = refl
no_wishes rows (suc k) = ap (λ ws. [] ∷ ws) (no_wishes rows k)

module _ (q : Queues) (rows : List Wanted) (n k w : ℕ) (zs : List ℕ) (nodes : q.nodes ≡ n) (lists : q.lists ≡ replicate k []) (empty : rows ≡ replicate n (record { amount = 0; entering = 0 })) where
  pub sound-start : length zs ≡ k → k ≤ MAX_LEVELS → w ≤ MAX_COST → IsSound q rows w zs
  sound-start levels few ticks = grind (arith, nat_tests, length-replicate, none_queued, none_asks)

  pub table-start : (us : List ℕ) → table_of q rows w us zs ≡ record { nodes = n; switch = w; wishes = replicate k []; unclaimed = us; spares = zs }
  table-start us = rw (nodes, lists, no_wishes rows k) refl
