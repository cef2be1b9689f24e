-- What a read of a Vec says of the list that it stands for.
use Rattle.std.proofs.Common.{◌≡◌, ℕ, ◌<◌, List, map, length, get_or, set, ℤ, pos, ◌+ℤ◌, ◌-ℤ◌, ◌*ℤ◌, vec_items, sym, ap, ◌∙◌}
use Rattle.std.proofs.lemmas.List.{get_or-map, length-map, map-set}
use Rattle.std.specs.Vec.{with_item}
use Rattle.venue.specs.World as world
use Rattle.venue.specs.World.{World, account, item, held, gets, with_account, with_money, nobody, no_item}
use Rattle.wire.specs.Means.{item_of}
use Rattle.wire.specs.declared.item.Item.{Item}
use Rattle.wire.specs.declared.side.Side.TheVariants.{Buy}
use Rattle.reference.specs.Means.{account_of, world_of}
use Rattle.reference.specs.declared.market.Account.{Account}
use Rattle.reference.specs.declared.market.Market.{Market}
use Rattle.reference.specs.declared.market.Order.{Order}

-- what a read past the end of a row would give
abbrev pub blank_order : Order
blank_order = record { number = 0; account = 0; item = 0; side = Buy; price = 0; left = 0 }

abbrev pub blank_item : Item
blank_item = record { price = 0; band = 0 }

pub read_map : {X Y : Type 0} (f : X → Y) (xs : List X) (i : ℕ) (x : X) (e : Y) → i < length xs → x ≡ get_or xs i x → get_or (map f xs) i e ≡ f x
read_map f xs i x e h r = get_or-map f xs i x e h ∙ ap f (sym r)

-- what stands in place i of the row, where i is the number a or k
pub account_read : (m : Market) (a i : ℕ) (x : Account) → a < length (world_of m).accounts → i ≡ a → x ≡ get_or (vec_items m.accounts) i x →
    account (world_of m) a ≡ account_of x
unfolding account
account_read m a i x h e r = read_map account_of (vec_items m.accounts) a x nobody (simp length-map at h) (rw e at r)

pub item_read : (m : Market) (k i : ℕ) (x : Item) → k < length (world_of m).items → i ≡ k → x ≡ get_or (vec_items m.items) i x →
    item (world_of m) k ≡ item_of x
unfolding item
item_read m k i x h e r = read_map item_of (vec_items m.items) k x no_item (simp length-map at h) (rw e at r)

-- what an account comes to, by what was read of it and of the item
pub gets_from : (w : World) (a k : ℕ) (x : ℤ) (p : ℕ) (y : world.Account) (i : world.Item) → account w a ≡ y → item w k ≡ i →
    gets w a k x p ≡
    with_account w a (record {
      cash = y.cash -ℤ (x *ℤ (pos p -ℤ pos i.price));
      holds = set y.holds k (get_or y.holds k (pos 0) +ℤ x);
    })
unfolding gets held
gets_from w a k x p y i e f = rw (e, f)

-- an account's money and all money are written
pub paid_world : (m : Market) (a b : ℕ) (x : Account) (cash new : ℤ) (n p : ℕ) → account (world_of m) a ≡ account_of x → b ≡ a → cash ≡ new → n ≡ p →
    with_money (with_account (world_of m) a (record { cash = cash; holds = (account (world_of m) a).holds })) n ≡
    record {
      items = (world_of m).items;
      accounts = map account_of (vec_items (with_item m.accounts b (record { cash = new; positions = x.positions })));
      orders = (world_of m).orders;
      next = m.next;
      money = p;
      trading = m.trading;
    }
unfolding with_money with_account
paid_world m a b x cash new n p e f g h = rw (e, f, g, h) (simp map-set)
