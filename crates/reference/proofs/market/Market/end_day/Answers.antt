use Rattle.std.proofs.Common.{◌≡◌, [], ◌∷◌, ◌+◌, ◌*◌, ◌≤◌, map, length, vec_items, vec_len, sym, refl, ap, ◌∙◌, arith, rules, leb-true, le-leb}
use Rattle.std.proofs.lemmas.List.{length-map}
use Rattle.std.proofs.lemmas.Bool.{false≢true}
use Rattle.venue.specs.World as world
use Rattle.venue.specs.World.{account, prices_fit}
use Rattle.wire.specs.Means.{column, item_of}
use Rattle.reference.specs.Means.{world_of, account_of}
use Rattle.reference.proofs.Evenings.{not_ended, ended}
use Rattle.reference.proofs.Settled.{length_new, length_paid}
use Rattle.reference.proofs.market.Market.end_day.Goals as goal
use Rattle.reference.proofs.market.Market.end_day.Goals.{After-all_fit, then-not-self-via-then-not-self}
use Rattle.reference.proofs.market.Market.end_day.Goals.{then-not-self-via-else-not-self+then-not-reaches}

pub returns-then-not-self : goal.returns-then-not-self
returns-then-not-self c =
    let m = c.args.self.now in
    let same : (world_of c.then-not-self.self ≡ world_of c.args.self.now) × (c.then-not-self.self.limits ≡ c.args.self.now.limits) =
    elim c.then-not-self.branch [
      | then-not-self-via-then-not-self w ↦ (ap world_of w.self-is, ap (λ v. v.limits) w.self-is)
      | then-not-self-via-else-not-self+then-not-reaches w ↦ (ap world_of w.self-is, ap (λ v. v.limits) w.self-is)
    ] in
    λ k. record {
      after = not_ended k (world_of m) c.args.bytes.now (length (world_of m).items) c.args.prices
          (simp length-map (omega (arith, m.some, m.items.ok.0)))
          (λ h. elim c.then-not-self.branch [
            | then-not-self-via-then-not-self w ↦ false≢true (sym w.if-not-self.true ∙ h.1)
            | then-not-self-via-else-not-self+then-not-reaches w ↦
                let a = simp length-map at h.0 in
                false≢true (sym w.if-not-reaches.true ∙ w.reaches.ensures ∙ le-leb _ _ (omega (arith, a, w.len.ensures, m.items.ok.0)))
          ]) ∙ ap (λ v. (v, world.no ∷ [])) (sym same.0);
      limits = same.1;
    }

-- the test of the prices, in the plain market's words
tested : (c : goal.After-all_fit) → c.all_fit.result ≡
    world.prices_fit (world_of c.args.self.now).items
    (column c.args.bytes.now c.args.prices (length (world_of c.args.self.now).items))
    (column c.args.bytes.now (c.args.prices + 4) (length (world_of c.args.self.now).items))
tested c =
    let bs = c.args.bytes.now in
    c.all_fit.ensures ∙
    ap (λ xs. world.prices_fit (map item_of xs) (column bs c.args.prices (length xs)) (column bs (c.args.prices + 4) (length xs)))
    c.deref.ensures.value ∙
    simp length-map

pub returns-then-not-all_fit : goal.returns-then-not-all_fit
returns-then-not-all_fit c =
    let m = c.args.self.now in
    λ k. record {
      after = not_ended k (world_of m) c.args.bytes.now (length (world_of m).items) c.args.prices
          (simp length-map (omega (arith, m.some, m.items.ok.0)))
          (λ h. false≢true (sym c.if-not-all_fit.true ∙ tested (goal.at.returns-then-not-all_fit c).After-all_fit ∙ h.2));
      limits = refl;
    }

pub settle-requires-clause-shaped : goal.settle-requires-clause-shaped
unfolding account
settle-requires-clause-shaped c = λ a h.
    rw c.deref-2.ensures.value (simp length-map at (c.requires.fit.roomy.wide a (simp length-map (search rules))))

pub settle-requires-clause-fits : goal.settle-requires-clause-fits
unfolding account
settle-requires-clause-fits c =
    let fit = sym (tested (goal.at.settle-requires-clause-fits c).After-all_fit) ∙ c.if-not-all_fit.false in
    λ a h. rw c.deref-2.ensures.value (simp length-map at (c.requires.settles.cash c.if-not-self.false _ _ fit a (simp length-map (search rules))))

pub invariant_of-self-2 : goal.invariant_of-self-2
invariant_of-self-2 c =
    let m = c.args.self.now in
    let i = simp length-map at (ap length c.renew.ensures) in
    let a = simp length-map at (ap length c.settle.ensures) in
    let n = length_new c.args.bytes.now c.args.prices (c.args.prices + 4) (vec_len m.items) in
    let l = simp length-map at (length_paid (map item_of c.deref-2.result.now) (column c.args.bytes.now c.args.prices (length c.deref-2.result.now))
    (map account_of (vec_items m.accounts))) in
    record {
      some = omega (arith, m.some, c.renew.new.items.ok.0);
      few_items = omega (arith, m.few_items, c.renew.new.items.ok.0);
      few_accounts = omega (arith, m.few_accounts, m.accounts.ok.0, c.settle.new.accounts.ok.0);
      places = omega (arith, m.places, c.clear.ensures.capacity);
    }

pub returns : goal.returns
returns c =
    let m = c.args.self.now in
    let bs = c.args.bytes.now in
    let n : vec_len m.items ≡ length (map item_of (vec_items m.items)) = simp length-map m.items.ok.0 in
    let fit = sym (tested (goal.at.returns c).After-all_fit) ∙ c.if-not-all_fit.false in
    let new : map item_of (vec_items c.renew.new.items) ≡
    world.new_items (column bs c.args.prices (length (world_of m).items)) (column bs (c.args.prices + 4) (length (world_of m).items)) =
    c.renew.ensures ∙ ap (λ k. world.new_items (column bs c.args.prices k) (column bs (c.args.prices + 4) k)) n in
    let paid : map account_of (vec_items c.settle.new.accounts) ≡
    world.paid (world_of m).items (column bs c.args.prices (length (world_of m).items)) (world_of m).accounts =
    c.settle.ensures ∙
    ap (λ xs. world.paid (map item_of xs) (column bs c.args.prices (length xs)) (world_of m).accounts) c.deref-2.ensures.value ∙ simp
    length-map in
    let inside : c.args.prices + 8 * length (world_of m).items ≤ length bs =
    omega (arith, n, c.len.ensures, leb-true _ _ (sym c.reaches.ensures ∙ c.if-not-reaches.false)) in
    λ k. record {
      after = ended k (world_of m) bs (length (world_of m).items) c.args.prices (inside, c.if-not-self.false, fit) ∙
          rw (new, paid, c.clear.ensures.items);
      limits = refl;
    }
