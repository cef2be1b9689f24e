use Rattle.std.proofs.Common.{◌≡◌, true, ltb, length, Some, vec_items, sym, ap, ◌∙◌, arith, w64, to_z, of_z, rules}
use Rattle.std.proofs.lemmas.List.{length-map}
use Rattle.std.proofs.lemmas.Int.{to_z-of_z}
use Rattle.reference.proofs.Places.{account_read}
use Rattle.reference.proofs.plain_market.PlainMarket.cash.Goals as goal

pub returns : goal.returns
returns c =
    let m = c.args.self.now.told.market in
    let l = c.in_ok-of.ensures.lookup in
    let e : true ≡ ltb c.args.account (length (vec_items c.args.self.now.told.market.accounts)) = rw (c.from.ensures, c.deref.ensures.value) at l.0 in
    let h = l.3.0 in
    let r = account_read m c.args.account c.from.result c.in_ok-of.of.now
    (simp length-map (omega (arith, c.from.ensures, c.deref.ensures.len, m.accounts.ok.0))) c.from.ensures (rw c.deref.ensures.value at l.1) in
    let z : to_z w64 (of_z w64 c.in_ok-of.of.now.cash) ≡ c.in_ok-of.of.now.cash = search (rules, to_z-of_z) in
    rw (length-map, ← e) (ap Some (z ∙ ap (λ y. y.cash) (sym r)))
