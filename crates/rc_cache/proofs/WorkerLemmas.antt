-- What one worker asks of a book, and what comes of it.
use Rattle.std.proofs.Common.{◌≡◌, ℕ, ◌+◌, ◌≤◌, ◌⊎◌, Bool, true, false, not, List, [], ◌∷◌, ◌++◌, take, Some, inl, inr, refl, sym, ap, ◌∙◌, subst, arith, append-nil, append_assoc}
use Rattle.std.specs.Prelude.{IfSome}
use Rattle.std.proofs.lemmas.Bool.{and_parts, false≢true}
use Rattle.rc_redraw.specs.Asking.{Key, cost_of}
use Rattle.rc_redraw.specs.Counts.{Call, looked, kept, Counts, looked_up, kept_once, with_call}
use Rattle.rc_redraw.specs.Choosing.{Asks, hits as hit, misses as missed, AsksAll, Lacks, unasked, unkept, AsksSome}
use Rattle.rc_cache.specs.Replay.{is_among, without, after, legal_from, is_legal}
use Rattle.rc_cache.specs.Hits.{hits_from, cost_from, hits, cost}

-- what the calls say where they are legal from this list on
abbrev Says : Counts → Counts → ℕ → ℕ → List Key → List Call → Type 0
Says before after n n' looks calls =
    (capacity : ℕ) (keys : List Key) → legal_from capacity keys calls ≡ true →
    (after.hits ≡ before.hits + hits_from capacity keys looks) × (n' ≡ n + cost_from capacity keys looks)

abbrev Told : Counts → Counts → ℕ → ℕ → List Key → List Call → Type 0
Told before after n n' looks earlier =
    (calls : List Call) × (after.calls ≡ Some (earlier ++ calls)) × Says before after n n' looks calls

none-missed : (b : Bool) → not b ≡ true → b ≡ false
none-missed true h = absurd (false≢true h)
none-missed false h = refl

hit_says : (key : Key) (looks : List Key) (before between after : Counts) (n more n' : ℕ) (calls : List Call) → between ≡ looked_up key true before →
    more ≡ n → Says between after more n' looks calls → Says before after n n' (key ∷ looks) (looked key true ∷ calls)
hit_says key looks before between after n more n' calls is same says capacity keys legal =
    let l = and_parts (is_among key keys) (legal_from capacity (key ∷ without key keys) calls) legal in
    let there : is_among key keys ≡ true = l.0 in
    let rest = says capacity (key ∷ without key keys) l.1 in
    let hit : between.hits ≡ before.hits + 1 = ap (λ c. c.hits) is in
    let hits = rest.0 in
    let cost = rest.1 in
    rw there (omega (arith, hits, hit), omega (arith, cost, same))

miss_says : (key : Key) (looks : List Key) (before between after : Counts) (n more n' : ℕ) (calls : List Call) →
    between ≡ kept_once key (looked_up key false before) → more ≡ n + cost_of key → Says between after more n' looks calls →
    Says before after n n' (key ∷ looks) (looked key false ∷ kept key ∷ calls)
miss_says key looks before between after n more n' calls is more_is says capacity keys legal =
    let l = and_parts (not (is_among key keys)) (legal_from capacity (take capacity (key ∷ without key keys)) calls) legal in
    let absent : is_among key keys ≡ false = none-missed (is_among key keys) l.0 in
    let rest = says capacity (take capacity (key ∷ without key keys)) l.1 in
    let hit : between.hits ≡ before.hits + 0 = ap (λ c. c.hits) is in
    let hits = rest.0 in
    let cost = rest.1 in
    rw absent (omega (arith, hits, hit), omega (arith, cost, more_is))

pub told_of : (looks : List Key) (before after : Counts) (n n' : ℕ) (earlier : List Call) → before.calls ≡ Some earlier →
    AsksAll looks before after n n' → Told before after n n' looks earlier
told_of [] before after n n' earlier tells all =
    let hits : after.hits ≡ before.hits = ap (λ c. c.hits) all.0 in
    let same = all.1 in (
      [],
      ap (λ c. c.calls) all.0 ∙ (tells ∙ ap (λ cs. Some cs) (sym (append-nil earlier))),
      λ capacity keys legal. (omega (arith, hits), omega (arith, same)),
    )
told_of (key ∷ looks) before after n n' earlier tells all = by_case key looks before all.0 after n all.1 n' earlier tells all.2 (λ earlier' tells'. told_of looks all.0 after all.1 n' earlier' tells' all.3)
  where
    by_case : (key : Key) (looks : List Key) (before between after : Counts) (n more n' : ℕ) (earlier : List Call) → before.calls ≡ Some earlier →
        Asks key before between n more → ((earlier' : List Call) → between.calls ≡ Some earlier' → Told between after more n' looks earlier') →
        Told before after n n' (key ∷ looks) earlier
    by_case key looks before between after n more n' earlier tells (hit is same) rest =
        let calls : between.calls ≡ Some (earlier ++ looked key true ∷ []) = ap (λ c. c.calls) is ∙ ap (with_call (looked key true)) tells in
        let r = rest (earlier ++ looked key true ∷ []) calls in (
          looked key true ∷ r.0,
          r.1 ∙ ap (λ cs. Some cs) (append_assoc earlier (looked key true ∷ []) r.0),
          hit_says key looks before between after n more n' r.0 is same r.2,
        )
    by_case key looks before between after n more n' earlier tells (missed is more_is) rest =
        let calls : between.calls ≡ Some ((earlier ++ looked key false ∷ []) ++ kept key ∷ []) =
        ap (λ c. c.calls) is ∙ ap (λ o. with_call (kept key) (with_call (looked key false) o)) tells in
        let r = rest ((earlier ++ looked key false ∷ []) ++ kept key ∷ []) calls in (
          looked key false ∷ kept key ∷ r.0,
          r.1 ∙ ap (λ cs. Some cs)
              (append_assoc (earlier ++ looked key false ∷ []) (kept key ∷ []) r.0 ∙ append_assoc earlier (looked key false ∷ []) (kept key ∷ r.0)),
          miss_says key looks before between after n more n' r.0 is more_is r.2,
        )

pub one_worker : (capacity : ℕ) (looks : List Key) (before after : Counts) (steps steps' : ℕ) → before.calls ≡ Some [] →
    AsksAll looks before after steps steps' → IfSome after.calls (λ calls. is_legal capacity calls ≡ true →
    (after.hits ≡ before.hits + hits looks capacity) × (steps' ≡ steps + cost looks capacity))
one_worker capacity looks before after n n' tells all =
    let told = told_of looks before after n n' [] tells all in
    subst (λ o. IfSome o (λ calls. is_legal capacity calls ≡ true →
    (after.hits ≡ before.hits + hits looks capacity) × (n' ≡ n + cost looks capacity)))
    (sym told.1) (told.2 capacity [])

-- what the calls say where memory ran out
abbrev Bounds : ℕ → ℕ → List Key → List Call → Type 0
Bounds n n' looks calls =
    (capacity : ℕ) (keys : List Key) → legal_from capacity keys calls ≡ true → (n ≤ n') × (n' ≤ n + cost_from capacity keys looks)

abbrev ToldSome : Counts → ℕ → ℕ → List Key → List Call → Type 0
ToldSome after n n' looks earlier = (calls : List Call) × (after.calls ≡ Some (earlier ++ calls)) × Bounds n n' looks calls

hit_bounds : (key : Key) (looks : List Key) (n more n' : ℕ) (calls : List Call) → more ≡ n → Bounds more n' looks calls →
    Bounds n n' (key ∷ looks) (looked key true ∷ calls)
hit_bounds key looks n more n' calls same bounds capacity keys legal =
    let l = and_parts (is_among key keys) (legal_from capacity (key ∷ without key keys) calls) legal in
    let there : is_among key keys ≡ true = l.0 in
    let rest = bounds capacity (key ∷ without key keys) l.1 in
    let least = rest.0 in
    let most = rest.1 in
    rw there (omega (arith, least, same), omega (arith, most, same))

miss_bounds : (key : Key) (looks : List Key) (n more n' : ℕ) (calls : List Call) → more ≡ n + cost_of key → Bounds more n' looks calls →
    Bounds n n' (key ∷ looks) (looked key false ∷ kept key ∷ calls)
miss_bounds key looks n more n' calls more_is bounds capacity keys legal =
    let l = and_parts (not (is_among key keys)) (legal_from capacity (take capacity (key ∷ without key keys)) calls) legal in
    let absent : is_among key keys ≡ false = none-missed (is_among key keys) l.0 in
    let rest = bounds capacity (take capacity (key ∷ without key keys)) l.1 in
    let least = rest.0 in
    let most = rest.1 in
    rw absent (omega (arith, least, more_is), omega (arith, most, more_is))

-- all of a key's steps, or none
all_or_none : (n n' cost : ℕ) → (n' ≡ n) ⊎ (n' ≡ n + cost) → (n ≤ n') × (n' ≤ n + cost)
all_or_none n n' cost (inl none) = (omega (arith, none), omega (arith, none))
all_or_none n n' cost (inr all) = (omega (arith, all), omega (arith, all))

-- a miss that is the last call
last_bounds : (key : Key) (looks : List Key) (n n' : ℕ) → n ≤ n' → n' ≤ n + cost_of key → Bounds n n' (key ∷ looks) (looked key false ∷ [])
last_bounds key looks n n' least most capacity keys legal =
    let absent : is_among key keys ≡ false = none-missed (is_among key keys) (and_parts (not (is_among key keys)) true legal).0 in
    rw absent (least, omega (arith, most))

lacks_tell : (key : Key) (looks : List Key) (before after : Counts) (n n' : ℕ) (earlier : List Call) → before.calls ≡ Some earlier →
    Lacks key before after n n' → ToldSome after n n' (key ∷ looks) earlier
lacks_tell key looks before after n n' earlier tells (unasked is same) = (
  [],
  ap (λ c. c.calls) is ∙ (tells ∙ ap (λ cs. Some cs) (sym (append-nil earlier))),
  λ capacity keys legal. (omega (arith, same), omega (arith, same)),
)
lacks_tell key looks before after n n' earlier tells (unkept is made) =
    let steps = all_or_none n n' (cost_of key) made in (
      looked key false ∷ [],
      ap (λ c. c.calls) is ∙ ap (with_call (looked key false)) tells,
      last_bounds key looks n n' steps.0 steps.1,
    )

asks_tell : (key : Key) (looks : List Key) (before between after : Counts) (n more n' : ℕ) (earlier : List Call) → before.calls ≡ Some earlier →
    Asks key before between n more → ((earlier' : List Call) → between.calls ≡ Some earlier' → ToldSome after more n' looks earlier') →
    ToldSome after n n' (key ∷ looks) earlier
asks_tell key looks before between after n more n' earlier tells (hit is same) rest =
    let calls : between.calls ≡ Some (earlier ++ looked key true ∷ []) = ap (λ c. c.calls) is ∙ ap (with_call (looked key true)) tells in
    let r = rest (earlier ++ looked key true ∷ []) calls in (
      looked key true ∷ r.0,
      r.1 ∙ ap (λ cs. Some cs) (append_assoc earlier (looked key true ∷ []) r.0),
      hit_bounds key looks n more n' r.0 same r.2,
    )
asks_tell key looks before between after n more n' earlier tells (missed is more_is) rest =
    let calls : between.calls ≡ Some ((earlier ++ looked key false ∷ []) ++ kept key ∷ []) =
    ap (λ c. c.calls) is ∙ ap (λ o. with_call (kept key) (with_call (looked key false) o)) tells in
    let r = rest ((earlier ++ looked key false ∷ []) ++ kept key ∷ []) calls in (
      looked key false ∷ kept key ∷ r.0,
      r.1 ∙ ap (λ cs. Some cs)
          (append_assoc (earlier ++ looked key false ∷ []) (kept key ∷ []) r.0 ∙ append_assoc earlier (looked key false ∷ []) (kept key ∷ r.0)),
      miss_bounds key looks n more n' r.0 more_is r.2,
    )

some_told : (looks : List Key) (before after : Counts) (n n' : ℕ) (earlier : List Call) → before.calls ≡ Some earlier →
    AsksSome looks before after n n' → ToldSome after n n' looks earlier
some_told [] before after n n' earlier tells some =
    let same = some.1 in (
      [],
      ap (λ c. c.calls) some.0 ∙ (tells ∙ ap (λ cs. Some cs) (sym (append-nil earlier))),
      λ capacity keys legal. (omega (arith, same), omega (arith, same)),
    )
some_told (key ∷ looks) before after n n' earlier tells (inl lacks) = lacks_tell key looks before after n n' earlier tells lacks
some_told (key ∷ looks) before after n n' earlier tells (inr more) =
    asks_tell key looks before more.0 after n more.1 n' earlier tells more.2
    (λ earlier' tells'. some_told looks more.0 after more.1 n' earlier' tells' more.3)

pub one_worker_lacks : (capacity : ℕ) (looks : List Key) (before after : Counts) (steps steps' : ℕ) → before.calls ≡ Some [] →
    AsksSome looks before after steps steps' → IfSome after.calls (λ calls. is_legal capacity calls ≡ true →
    (steps ≤ steps') × (steps' ≤ steps + cost looks capacity))
one_worker_lacks capacity looks before after n n' tells some =
    let told = some_told looks before after n n' [] tells some in
    subst (λ o. IfSome o (λ calls. is_legal capacity calls ≡ true → (n ≤ n') × (n' ≤ n + cost looks capacity)))
    (sym told.1) (told.2 capacity [])
