use Rattle.std.proofs.Common.{◌≡◌, ◌+◌, ◌<◌, [], ◌∷◌, pos, ◌+ℤ◌, vec_len, sym, refl, ap, ◌∙◌, arith, w64, to_z, of_z, rules}
use Rattle.std.proofs.lemmas.List.{length-map}
use Rattle.std.proofs.lemmas.Int.{ints}
use Rattle.std.proofs.lemmas.Result.{err_from_is_err_and}
use Rattle.venue.specs.World.{account, with_money, with_account, done}
use Rattle.reference.specs.Means.{world_of, account_of, limits_of}
use Rattle.reference.proofs.Payments.{paid_in, not_paid_in}
use Rattle.reference.proofs.Places.{account_read, paid_world}
use Rattle.reference.proofs.market.Market.pay_in.Goals as goal
use Rattle.reference.proofs.market.Market.pay_in.Goals.{After-index_mut}

pub returns-then-a-len : goal.returns-then-a-len
returns-then-a-len c =
    λ k. record {
      after = not_paid_in (limits_of c.args.self.now.limits k) (world_of c.args.self.now) c.args.account c.args.amount
          (λ h. let g = simp length-map at h.0 in let i = h.1 in omega (arith, c.args.self.now.accounts.ok.0));
      limits = refl;
    }

pub returns-in_err-money : goal.returns-in_err-money
returns-in_err-money c =
    let p = err_from_is_err_and c.from_residual.result c.from_residual.ensures.1 in
    λ k. record {
      after = rw p.1 (not_paid_in (limits_of c.args.self.now.limits k) (world_of c.args.self.now) c.args.account c.args.amount
          (λ h. let i = h.2 in (rw c.in_err-money.ensures.ok_part at c.checked_add.ensures) (omega (arith, c.args.self.now.limits.small))));
      limits = refl;
    }

pub returns-then-money-self : goal.returns-then-money-self
returns-then-money-self c =
    λ k. record {
      after = not_paid_in (limits_of c.args.self.now.limits k) (world_of c.args.self.now) c.args.account c.args.amount
          (λ h. let i = h.2 in omega (arith, (rw c.in_ok-money.ensures.ok_part at c.checked_add.ensures).1));
      limits = refl;
    }

read : (c : goal.After-index_mut) → account (world_of c.args.self.now) c.args.account ≡ account_of c.index_mut.result.now
read c =
    account_read c.args.self.now c.args.account c.from-a.result c.index_mut.result.now (simp length-map (search rules)) c.from-a.ensures
    c.index_mut.ensures.value

pub overflow_add-index_mut : goal.overflow_add-index_mut
overflow_add-index_mut c =
    let here : c.args.account < vec_len c.args.self.now.accounts = search rules in
    let m = rw (read (goal.at.overflow_add-index_mut c).After-index_mut) at (c.requires.fit.roomy.cash c.args.account (simp length-map (search rules))) in
    omega (arith, ints, (rw c.in_ok-money.ensures.ok_part at c.checked_add.ensures).1, c.args.self.now.limits.small)

pub returns : goal.returns
unfolding with_money with_account
returns c =
    let here : c.args.account < vec_len c.args.self.now.accounts = search rules in
    let r = read (goal.at.returns c).After-index_mut in
    let m = rw r at (c.requires.fit.roomy.cash c.args.account (simp length-map (search rules))) in
    let x : c.in_ok-money.money ≡ c.args.self.now.money + c.args.amount = (rw c.in_ok-money.ensures.ok_part at c.checked_add.ensures).1 in
    let cash : to_z w64 (of_z w64 (to_z w64 (of_z w64 c.index_mut.result.now.cash) +ℤ to_z w64 c.args.amount)) ≡ c.index_mut.result.now.cash
    +ℤ pos c.args.amount =
    omega (arith, ints, c.args.self.now.limits.small) in
    λ k. record {
      after = paid_in (limits_of c.args.self.now.limits k) (world_of c.args.self.now) c.args.account c.args.amount
          (simp length-map (search rules), omega arith, omega (arith, x)) ∙
          ap (λ v. (v, done 0 ∷ []))
          (paid_world c.args.self.now c.args.account c.from-a.result c.index_mut.result.now _ _ _ _ r c.from-a.ensures
          (ap (λ y. y.cash +ℤ pos c.args.amount) r ∙ sym cash) (sym x));
      limits = refl;
    }
