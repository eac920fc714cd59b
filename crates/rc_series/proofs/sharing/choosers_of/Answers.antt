use Rattle.std.proofs.Common.{◌≡◌, All, arith, sym, subst}
use Rattle.std.proofs.lemmas.List.Elements.{All-push}
use Rattle.rc_series.proofs.LaneLemmas.{first_and_rest, moved_over}
use Rattle.rc_series.proofs.sharing.choosers_of.Goals as goal

pub loop-memos-preserved : goal.loop-memos-preserved
loop-memos-preserved g c =
    let left = c.loop-memos.memos in
    let split = first_and_rest left.items c.remove.new.self.items c.remove.result
    (omega (arith, c.remove.ensures.len, left.ok.0)) c.remove.ensures.value c.remove.ensures.by_index.2 in
    let made = c.in-Ok.ensures in
    record {
      memos =
          moved_over (λ c'. c'.memo) c.loop-memos.choosers.items c.push.new.self.items c.loop-memos.memos.items
          c.remove.new.self.items c.args.memos.items
          c.in-Ok.chooser c.remove.result c.in-Ok-push.ensures.items split made.memo c.loop-memos.invariant.memos;
      code =
          subst (All (λ c'. (c'.ground ≡ c.args.about.now.value) × (c'.code.value ≡ c.args.code.now.value)))
          (sym c.in-Ok-push.ensures.items)
          (All-push (λ c'. (c'.ground ≡ c.args.about.now.value) × (c'.code.value ≡ c.args.code.now.value))
          c.loop-memos.choosers.items c.in-Ok.chooser
          c.loop-memos.invariant.code (made.about, made.code));
    }
