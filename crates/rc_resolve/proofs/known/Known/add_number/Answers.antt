use Rattle.std.proofs.Common.{◌≡◌, ◌∙◌, ap, sym, map, ◌∷◌, [], option_map, option_to_list}
use Rattle.std.specs.Map.{keys_of}
use Rattle.rc_deck.proofs.EachLemmas.{on_ok}
use Rattle.rc_resolve.specs.Known.{with_all, with_mentions, nums_alone, loc_seen, num_seen}
use Rattle.rc_resolve.proofs.Firsts.{seen_added}
use Rattle.rc_resolve.proofs.known.Known.add_number.Goals as goal

pub returns-in-Some : goal.returns-in-Some
returns-in-Some c =
    let known = c.self.inside in
    let entry = c.in-Some.entry in
    on_ok c.add_entry.result c.add_entry.ensures (λ added.
    let nums : map num_seen c.add_entry.new.entries
    ≡ with_mentions (map num_seen known.nums) (num_seen entry ∷ []) =
    ap (map num_seen) added ∙ seen_added num_seen (λ mention. mention.name) known.nums (entry ∷ []) in
    ap
    (λ nums. record {
      attrs = keys_of known.attrs;
      values = keys_of known.values;
      maps = keys_of known.maps;
      locs = map loc_seen known.locs;
      nums = nums;
      vars = keys_of known.vars;
    })
    nums
    ∙ ap (λ old. with_all old (nums_alone (num_seen entry ∷ []))) c.self.view_is
    ∙ ap (λ found. with_all c.args.self.now (nums_alone (option_to_list (option_map num_seen found)))) (sym c.in-Some.is))
