-- What workers did is put together.
use Rattle.std.proofs.Common.{◌≡◌, ℕ, suc, ◌+◌, ◌<◌, ltb, Bool, List, [], ◌∷◌, ◌++◌, append-nil, append_assoc, length, length-append, map, flat_map, All, Result, Ok, Err, IfOk, slice_index_or, refl, sym, ap, ◌∙◌, subst, arith}
use Rattle.std.specs.List.{AllByRecursion}
use Rattle.std.proofs.lemmas.List.{map-append}
use Rattle.std.proofs.lemmas.List.Concat.{flat_map-append}
use Rattle.std.proofs.lemmas.List.Elements.{filter-append, All-from_recursion, recursion_from_All}
use Rattle.std.proofs.lemmas.List.Sums.{sum_by-append, sum_by_push}
use Rattle.rc_deck.specs.declared.memory.Memory.{Memory}
use Rattle.rc_play_spec.specs.About.{About}
use Rattle.rc_play_spec.specs.Plan.{Plan}
use Rattle.rc_match.specs.declared.playing.Played.{Played}
use Rattle.rc_redraw.specs.Counts.{Counts}
use Rattle.rc_match.specs.Asks.{asks_of}
use Rattle.atomic_table.specs.Seated.{TableId}
use Rattle.rc_deck.proofs.EachLemmas.{append_each, unmapped}
use Rattle.rc_claims.specs.Claims.{Pass, fresh, joined}
use Rattle.rc_series.specs.declared.turn.Worker.{Worker}
use Rattle.rc_series.specs.declared.turn.Turn.{Turn}
use Rattle.rc_series.specs.declared.gathering.Gathered.{Gathered}
use Rattle.rc_series.specs.Turns.{IsRecordIn, number_of, asked_by_all, counted, IsTurn}
use Rattle.rc_series.specs.Gathered.{AreTurns, IsOwn, looks_in, hits_in, keeps_in, IsGathered, Gathers}

pub nothing_left : {X : Type 0} (xs : List X) → length xs ≡ 0 → xs ≡ []
nothing_left [] none = refl
nothing_left (x ∷ xs) none = absurd (omega (arith, none))

module _ {C : Type 0} (name : C → ℕ) (counts : C → Counts) (noted : Bool) (about : About) (plan : Plan) where
  -- one worker alone
  pub gathered_one : (worker : Worker C) (turn : Turn C) → IsTurn name counts noted about plan worker turn →
      IsGathered name counts noted about plan (worker ∷ []) turn.pass turn.records.items (turn.chooser ∷ [])
  gathered_one worker turn is =
      record {
        holders = is.holders ∙ sym (append-nil worker.pass.holders);
        numbers = is.numbers;
        past = is.past;
        are = is.are;
        named = ap (λ n. n ∷ []) is.named;
        rise =
            record {
              each = refl;
              looked = omega (arith, is.rise.looked);
              hit = omega (arith, is.rise.hit);
              kept = omega (arith, is.rise.kept);
            };
      }

  -- and one worker more
  pub gathered_more : (workers : List (Worker C)) (pass : Pass) (records : List Played) (choosers : List C) (worker : Worker C) (turn : Turn C) →
      IsGathered name counts noted about plan workers pass records choosers → IsTurn name counts noted about plan worker turn →
      IsGathered name counts noted about plan (workers ++ worker ∷ []) (joined pass turn.pass) (records ++ turn.records.items) (choosers ++ turn.chooser ∷ [])
  gathered_more workers pass records choosers worker turn so_far is =
      let played = turn.records.items in
      let count = length plan.matches in
      let before = map-append (λ (w : Worker C). counts w.chooser) workers (worker ∷ []) in
      let after = map-append counts choosers (turn.chooser ∷ []) in
      let asked = ap (asked_by_all about plan) (map-append number_of records played) ∙ sum_by-append (λ n. length (asks_of about plan n)) (map number_of records) (map number_of played) in
      let olds : List Counts = map (λ (w : Worker C). counts w.chooser) workers in
      let news : List Counts = map counts choosers in
      let old = counts worker.chooser in
      let new = counts turn.chooser in
      record {
        holders =
            ap (λ l. l ++ turn.pass.holders) so_far.holders
            ∙ ap (λ l. flat_map (λ (w : Worker C). w.pass.holders) workers ++ l) (is.holders ∙ sym (append-nil worker.pass.holders))
            ∙ sym (flat_map-append (λ (w : Worker C). w.pass.holders) workers (worker ∷ []));
        numbers =
            filter-append (λ n. ltb n count) pass.numbers turn.pass.numbers
            ∙ ap (λ l. l ++ counted count turn.pass.numbers) so_far.numbers
            ∙ ap (λ l. map number_of records ++ l) is.numbers
            ∙ sym (map-append number_of records played);
        past =
            omega (arith, so_far.past, is.past, length-append records played, length-append pass.numbers turn.pass.numbers);
        are = append_each (IsRecordIn noted about plan) records played so_far.are is.are;
        named =
            map-append name choosers (turn.chooser ∷ [])
            ∙ ap (λ l. l ++ name turn.chooser ∷ []) so_far.named
            ∙ ap (λ n. map (λ (w : Worker C). name w.chooser) workers ++ n ∷ []) is.named
            ∙ sym (map-append (λ (w : Worker C). name w.chooser) workers (worker ∷ []));
        rise =
            record {
              each =
                  ap length after ∙ length-append news (new ∷ []) ∙ ap (λ n. n + 1) so_far.rise.each
                  ∙ sym (ap length before ∙ length-append olds (old ∷ []));
              looked =
                  let a = ap looks_in after ∙ sum_by_push (λ (c : Counts). c.looks) news new in
                  let b = ap looks_in before ∙ sum_by_push (λ (c : Counts). c.looks) olds old in
                  omega (arith, a, b, asked, so_far.rise.looked, is.rise.looked);
              hit =
                  let a = ap hits_in after ∙ sum_by_push (λ (c : Counts). c.hits) news new in
                  let b = ap hits_in before ∙ sum_by_push (λ (c : Counts). c.hits) olds old in
                  omega (arith, a, b, so_far.rise.hit, is.rise.hit);
              kept =
                  let a = ap hits_in after ∙ sum_by_push (λ (c : Counts). c.hits) news new in
                  let b = ap hits_in before ∙ sum_by_push (λ (c : Counts). c.hits) olds old in
                  let a' = ap keeps_in after ∙ sum_by_push (λ (c : Counts). c.keeps) news new in
                  let b' = ap keeps_in before ∙ sum_by_push (λ (c : Counts). c.keeps) olds old in
                  omega (arith, a, b, a', b', asked, so_far.rise.kept, is.rise.kept);
            };
      }

  -- the first of the results that are left is that of the first of the workers that are left
  turn_next : (left : List (Worker C)) (turn : Turn C) (rest : List (Result (Turn C) Memory)) → AreTurns name counts noted about plan left (Ok turn ∷ rest) →
      (worker : Worker C) × (others : List (Worker C)) × (left ≡ worker ∷ others) × IsTurn name counts noted about plan worker turn × AreTurns name counts noted about plan others rest
  turn_next [] turn rest are = absurd are
  turn_next (worker ∷ others) turn rest are = (worker, others, refl, are.0, are.1)

  none_left : (left : List (Worker C)) → AreTurns name counts noted about plan left [] → left ≡ []
  none_left [] are = refl
  none_left (worker ∷ left) are = absurd are

  pub gathers_first : (workers : List (Worker C)) (turn : Turn C) (rest : List (Result (Turn C) Memory)) (g : Gathered C) →
      AreTurns name counts noted about plan workers (Ok turn ∷ rest) →
      g.pass ≡ turn.pass → g.records.items ≡ turn.records.items → g.choosers.items ≡ turn.chooser ∷ [] →
      Gathers name counts noted about plan workers rest g
  gathers_first workers turn rest g are pass records choosers =
      let next = turn_next workers turn rest are in (
        next.0 ∷ [],
        next.1,
        next.2,
        next.4,
        rw (pass, records, choosers) (gathered_one next.0 turn next.3),
      )

  pub gathers_more : (workers : List (Worker C)) (turn : Turn C) (rest : List (Result (Turn C) Memory)) (g g' : Gathered C) →
      Gathers name counts noted about plan workers (Ok turn ∷ rest) g →
      g'.pass ≡ joined g.pass turn.pass → g'.records.items ≡ g.records.items ++ turn.records.items → g'.choosers.items ≡ g.choosers.items ++ turn.chooser ∷ [] →
      Gathers name counts noted about plan workers rest g'
  gathers_more workers turn rest g g' so_far pass records choosers =
      let next = turn_next so_far.1 turn rest so_far.3 in (
        so_far.0 ++ next.0 ∷ [],
        next.1,
        so_far.2 ∙ ap (λ l. so_far.0 ++ l) next.2 ∙ sym (append_assoc so_far.0 (next.0 ∷ []) next.1),
        next.4,
        rw (pass, records, choosers) (gathered_more so_far.0 g.pass g.records.items g.choosers.items next.0 turn so_far.4 next.3),
      )

  pub gathers_all : (workers : List (Worker C)) (g : Gathered C) → Gathers name counts noted about plan workers [] g →
      IsGathered name counts noted about plan workers g.pass g.records.items g.choosers.items
  gathers_all workers g so_far =
      let all : workers ≡ so_far.0 = so_far.2 ∙ ap (λ l. so_far.0 ++ l) (none_left so_far.1 so_far.3) ∙ append-nil so_far.0 in
      rw all so_far.4

  -- what is known of each place is known of the two lists
  pub turns_from_index : (workers : List (Worker C)) (results : List (Result (Turn C) Memory)) → length results ≡ length workers →
      ((i : ℕ) (w : Worker C) (r : Result (Turn C) Memory) → i < length workers → IfOk (slice_index_or results i r) (IsTurn name counts noted about plan (slice_index_or workers i w))) →
      AreTurns name counts noted about plan workers results
  turns_from_index [] [] same each = tt
  turns_from_index [] (r ∷ rs) same each = absurd (omega (arith, same))
  turns_from_index (w ∷ ws) [] same each = absurd (omega (arith, same))
  turns_from_index (w ∷ ws) (r ∷ rs) same each =
      one w ws r rs (each 0 w r (omega arith)) (turns_from_index ws rs (omega (arith, same)) (λ i u e l. each (suc i) u e (omega (arith, l))))
    where
      one : (w : Worker C) (ws : List (Worker C)) (r : Result (Turn C) Memory) (rs : List (Result (Turn C) Memory)) →
          IfOk r (IsTurn name counts noted about plan w) → AreTurns name counts noted about plan ws rs → AreTurns name counts noted about plan (w ∷ ws) (r ∷ rs)
      one w ws (Ok turn) rs known rest = (known, rest)
      one w ws (Err lack) rs known rest = rest

  -- the passes of turns draw from the word that the workers' passes draw from
  pub own_turns : (table : TableId) (workers : List (Worker C)) (results : List (Result (Turn C) Memory)) → AllByRecursion (λ (w : Worker C). w.pass.table ≡ table) workers →
      AreTurns name counts noted about plan workers results → AllByRecursion (IsOwn table) results
  own_turns table [] [] own are = tt
  own_turns table [] (r ∷ rs) own are = absurd are
  own_turns table (w ∷ ws) [] own are = absurd are
  own_turns table (w ∷ ws) (Ok turn ∷ rs) own are = (are.0.own ∙ own.0, own_turns table ws rs own.1 are.1)
  own_turns table (w ∷ ws) (Err lack ∷ rs) own are = (tt, own_turns table ws rs own.1 are)

pub all_unmapped : {X Y : Type 0} (f : X → Y) (P : Y → Type 0) (xs : List X) (ys : List Y) → map f xs ≡ ys → All P ys → All (λ x. P (f x)) xs
all_unmapped f P xs ys is all =
    All-from_recursion (λ x. P (f x)) xs (unmapped P f xs (subst (AllByRecursion P) (sym is) (recursion_from_All P ys all)))

-- fresh passes
module _ {C : Type 0} (table : TableId) (workers : List (Worker C)) (holders : List ℕ) (is : map (λ (w : Worker C). w.pass) workers ≡ map (fresh table) holders) where
  all_fresh : (hs : List ℕ) → AllByRecursion (λ (p : Pass). (p.table ≡ table) × (p.numbers ≡ [])) (map (fresh table) hs)
  all_fresh [] = tt
  all_fresh (h ∷ hs) = ((refl, refl), all_fresh hs)

  workers_fresh : AllByRecursion (λ (w : Worker C). (w.pass.table ≡ table) × (w.pass.numbers ≡ [])) workers
  workers_fresh =
      unmapped (λ (p : Pass). (p.table ≡ table) × (p.numbers ≡ [])) (λ (w : Worker C). w.pass) workers
      (subst (AllByRecursion (λ (p : Pass). (p.table ≡ table) × (p.numbers ≡ []))) (sym is) (all_fresh holders))

  pub fresh_workers : All (λ (w : Worker C). (w.pass.table ≡ table) × (w.pass.numbers ≡ [])) workers
  fresh_workers = All-from_recursion (λ (w : Worker C). (w.pass.table ≡ table) × (w.pass.numbers ≡ [])) workers workers_fresh

  pub own_workers : AllByRecursion (λ (w : Worker C). w.pass.table ≡ table) workers
  own_workers = by workers workers_fresh
    where
      by : (ws : List (Worker C)) → AllByRecursion (λ (w : Worker C). (w.pass.table ≡ table) × (w.pass.numbers ≡ [])) ws → AllByRecursion (λ (w : Worker C). w.pass.table ≡ table) ws
      by [] all = tt
      by (w ∷ ws) all = (all.0.0, by ws all.1)
