-- Matches that are counted.
use Rattle.std.proofs.Common.{◌≡◌, ℕ, ◌+◌, Bool, true, cond, List, [], ◌∷◌, ◌++◌, map, sym, ap, ◌∙◌, arith}
use Rattle.std.proofs.lemmas.List.{map-append}
use Rattle.std.proofs.lemmas.List.FromFn.{map-range_with_len_more}
use Rattle.rc_play_spec.specs.Plan.{Deal as PureDeal}
use Rattle.rc_play_spec.specs.PlanStands.{later, counted_from}
use Rattle.rc_rules.specs.Plan.{deal_seen}
use Rattle.rc_rules.specs.declared.plan.Deal.{Deal}

-- one match more
pub counted_on : (first : PureDeal) (m : ℕ) (old new : List Deal) (deal : Deal) (pushed : Bool) → new ≡ cond pushed (old ++ deal ∷ []) old → pushed ≡ true
    → deal_seen deal ≡ later first m → map deal_seen old ≡ counted_from first m → map deal_seen new ≡ counted_from first (m + 1)
counted_on first m old new deal pushed is done next so_far =
    ap (map deal_seen) (is ∙ ap (λ b. cond b (old ++ deal ∷ []) old) done)
    ∙ map-append deal_seen old (deal ∷ [])
    ∙ ap (λ list. list ++ deal_seen deal ∷ []) so_far
    ∙ ap (λ d. counted_from first m ++ d ∷ []) next
    ∙ sym (map-range_with_len_more (later first) 0 m m (omega arith))
