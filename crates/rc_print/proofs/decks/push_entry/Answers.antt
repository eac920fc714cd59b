use Rattle.std.proofs.Common.{◌≡◌, ℕ, List, [], ◌∷◌, ◌++◌, map, slice_index_or, ap, ◌∙◌, append_assoc, append-nil, to_z-of_z, w64, rules, SFits}
use Rattle.std.specs.Fmt.{signed_decimal}
use Rattle.rc_base.specs.Tree.{printed_parts}
use Rattle.rc_sheet_spec.specs.Printing.{packed, named}
use Rattle.rc_print.proofs.Added.{start, then, last}
use Rattle.rc_print.proofs.decks.push_entry.Goals as goal

-- the bytes of an entry
entry_bytes : (attr values points : List ℕ)
    → ((((((((40 ∷ []) ++ attr) ++ (32 ∷ [])) ++ (40 ∷ [])) ++ values) ++ (41 ∷ [])) ++ (32 ∷ [])) ++ points) ++ (41 ∷ [])
    ≡ 40 ∷ ((attr ++ 32 ∷ 40 ∷ ((values ++ (41 ∷ [])) ++ 32 ∷ (points ++ []))) ++ (41 ∷ []))
entry_bytes attr values points = simp (append_assoc, append-nil)

pub returns : goal.returns
returns c =
    let sheet = c.args.sheet.now in
    let entry = c.args.entry.now in
    let fits : SFits w64 entry.points = search rules in
    let attr : List ℕ = slice_index_or sheet.names.attrs.items entry.attr [] in
    let values : List ℕ = printed_parts (packed (map (named sheet.names.values.items) entry.values.items)) in
    let points : List ℕ = signed_decimal entry.points in
    let are : c.push_values.new.out.bytes.items ≡ c.begin-2.new.self.bytes.items ++ values =
    c.in_ok-push_values.ensures
    ∙ ap (λ vs. c.begin-2.new.self.bytes.items ++ printed_parts (packed
    (map (named sheet.names.values.items) vs))) c.deref.ensures.value in
    let count : c.number.new.self.bytes.items ≡ c.space-2.new.self.bytes.items ++ points =
    c.in_ok-number.ensures ∙ ap (λ z. c.space-2.new.self.bytes.items ++ signed_decimal z) (to_z-of_z fits) in
    let first = then attr (then (40 ∷ []) (start c.args.out.now.bytes.items) c.in_ok-begin.ensures) c.in_ok-push_attr.ensures in
    let second = then values (then (40 ∷ []) (then (32 ∷ []) first c.in_ok-space.ensures) c.in_ok-begin-2.ensures) are in
    let third = then points (then (32 ∷ []) (then (41 ∷ []) second c.in_ok-close.ensures) c.in_ok-space-2.ensures) count in
    last _ (41 ∷ []) _ c.close-2.result third c.close-2.ensures (entry_bytes attr values points)
