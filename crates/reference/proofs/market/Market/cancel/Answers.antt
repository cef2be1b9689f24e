use Rattle.std.proofs.Common.{◌≡◌, ◌<◌, [], ◌∷◌, map, length, Some, None, vec_items, sym, refl, ap, ◌∙◌, rules}
use Rattle.std.proofs.lemmas.List.{length-map}
use Rattle.venue.specs.World.{with_orders, done}
use Rattle.reference.specs.Means.{world_of, order_of}
use Rattle.reference.specs.Parts.{found}
use Rattle.reference.proofs.Cancels.{not_cancelled, cancelled, stands_there, without_removed}
use Rattle.reference.proofs.market.Market.cancel.Goals as goal

pub returns-in_default : goal.returns-in_default
returns-in_default c =
    let e : None ≡ found c.args.account c.args.number (map order_of (vec_items c.args.self.now.orders)) =
    sym c.in_default.is ∙ c.place_of.ensures ∙ ap (λ os. found c.args.account c.args.number (map order_of os)) c.deref.ensures.value
    in
    λ k. record {
      after = not_cancelled k (world_of c.args.self.now) c.args.account c.args.number e;
      limits = refl;
    }

pub remove-requires : goal.remove-requires
remove-requires c =
    let e : Some c.in-Some.at ≡ found c.args.account c.args.number (map order_of (vec_items c.args.self.now.orders)) =
    sym c.in-Some.is ∙ c.place_of.ensures ∙ ap (λ os. found c.args.account c.args.number (map order_of os)) c.deref.ensures.value
    in
    let h = simp length-map at (stands_there (world_of c.args.self.now) c.args.account
    c.args.number c.in-Some.at e) in
    search rules

pub returns : goal.returns
unfolding with_orders
returns c =
    let w = world_of c.args.self.now in
    let e : Some c.in-Some.at ≡ found c.args.account c.args.number (map order_of (vec_items c.args.self.now.orders)) =
    sym c.in-Some.is ∙ c.place_of.ensures ∙ ap (λ os. found c.args.account c.args.number (map order_of os)) c.deref.ensures.value
    in
    let h : c.in-Some.at < length (vec_items c.args.self.now.orders) = simp length-map at
    (stands_there w c.args.account c.args.number c.in-Some.at e) in
    λ k. record {
      after = cancelled k w c.args.account c.args.number c.in-Some.at e ∙
          ap (λ os. (with_orders w os, done 0 ∷ [])) (without_removed (vec_items c.args.self.now.orders) c.in-Some.at h ∙ ap
          (map order_of) (sym c.remove.ensures.items));
      limits = refl;
    }
