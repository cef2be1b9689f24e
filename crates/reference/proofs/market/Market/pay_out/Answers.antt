use Rattle.std.proofs.Common.{◌≡◌, ◌<◌, [], ◌∷◌, length, pos, ◌-ℤ◌, ◌≤ℤ◌, sym, refl, ap, ◌∙◌, arith, w64, to_z, of_z, rules}
use Rattle.std.proofs.lemmas.List.{length-map}
use Rattle.std.proofs.lemmas.Int.{ints}
use Rattle.venue.specs.World.{account, with_money, with_account, done}
use Rattle.venue.proofs.Margins.{need_0}
use Rattle.reference.specs.Means.{world_of, account_of}
use Rattle.reference.proofs.Payments.{paid_out, not_paid_out}
use Rattle.reference.proofs.Places.{account_read, paid_world}
use Rattle.reference.proofs.market.Market.pay_out.Goals as goal
use Rattle.reference.proofs.market.Market.pay_out.Goals.{After-need_of}

pub returns-then-a-len : goal.returns-then-a-len
returns-then-a-len c =
    λ k. record {
      after = not_paid_out k (world_of c.args.self.now) c.args.account c.args.amount
          (λ h. let g = simp length-map at h.0 in let i = h.1 in omega (arith, c.args.self.now.accounts.ok.0));
      limits = refl;
    }

-- the account that was read, and what it may lose
read : (c : goal.After-need_of) → account (world_of c.args.self.now) c.args.account ≡ account_of c.index.result.now
read c =
    account_read c.args.self.now c.args.account c.from-a.result c.index.result.now (simp length-map (search rules)) c.from-a.ensures
    c.index.ensures

-- what is known once the need is counted: the account's money, its range, and that the need is not below 0
record Counted (c : goal.After-need_of) : Type 0 where
  is : (account (world_of c.args.self.now) c.args.account).cash ≡ c.index.result.now.cash
  high : c.index.result.now.cash ≤ℤ pos 1125899906842624
  low : pos 0 ≤ℤ c.need_of.result
  here : c.args.account < length (world_of c.args.self.now).accounts

counted : (c : goal.After-need_of) → Counted c
counted c =
    let r = ap (λ y. y.cash) (read c) in
    let h : c.args.account < length (world_of c.args.self.now).accounts = simp length-map (search rules) in
    record {
      is = r;
      here = h;
      high = omega (arith, ints, (c.requires.fit.roomy.cash c.args.account h).1, r);
      low = omega (
        arith,
        ints,
        need_0 (world_of c.args.self.now) c.args.account (world_of c.args.self.now).orders,
        c.need_of.ensures.value,
      );
    }

pub returns-then-need_of-from : goal.returns-then-need_of-from
returns-then-need_of-from c =
    let k = counted (goal.at.returns-then-need_of-from c).After-need_of in
    let r = k.is in
    λ b. record {
      after = not_paid_out b (world_of c.args.self.now) c.args.account c.args.amount
          (λ h. let i = h.2 in omega (arith, ints, c.need_of.ensures.value));
      limits = refl;
    }

pub overflow_cast-amount : goal.overflow_cast-amount
overflow_cast-amount c = let k = counted (goal.at.overflow_cast-amount c).After-need_of in omega (arith, ints, k.high, k.low)

pub overflow_sub-cash : goal.overflow_sub-cash
overflow_sub-cash c = let k = counted (goal.at.overflow_sub-cash c).After-need_of in omega (arith, ints, k.high, k.low)

pub returns : goal.returns
unfolding with_money with_account
returns c =
    let k = counted (goal.at.returns c).After-need_of in
    let r = account_read c.args.self.now c.args.account c.from-a.result c.index_mut.result.now k.here c.from-a.ensures c.index_mut.ensures.value in
    let cash : (account (world_of c.args.self.now) c.args.account).cash -ℤ pos c.args.amount ≡
    to_z w64 (of_z w64 (to_z w64 (of_z w64 c.index.result.now.cash) -ℤ to_z w64 c.args.amount)) =
    omega (arith, ints, k.is, k.high, k.low) in
    λ b. record {
      after = paid_out b (world_of c.args.self.now) c.args.account c.args.amount
          (k.here, omega arith, omega (arith, ints, k.is, k.high, k.low, c.need_of.ensures.value)) ∙
          ap (λ v. (v, done 0 ∷ []))
          (paid_world c.args.self.now c.args.account c.from-a.result c.index_mut.result.now _ _ _ _ r c.from-a.ensures
          cash (sym c.saturating_sub-self.ensures));
      limits = refl;
    }
