-- A market and its clearing house as plain lists: items with a price and a band, accounts with money and holdings, orders in the order in which they came.
-- Assumes nothing: these are definitions.
use Rattle.std.specs.Prelude.{ℕ, zero, suc, ◌+◌, ◌-◌, ◌*◌, Bool, true, false, not, ◌&&◌, ◌||◌, List, [], ◌∷◌, ◌++◌, length, slice_index_or, replicate, ℤ, pos, ◌+ℤ◌, ◌-ℤ◌, ◌*ℤ◌, neg_ℤ, ◌==◌, int_le, int_lt, nat_le, nat_lt, slice_set}
use Rattle.std.specs.Int.Signed.{mag}

abbrev pub pick : {A : Type 0} → Bool → A → A → A
pick true a b = a
pick false a b = b

abbrev pub lesser : ℕ → ℕ → ℕ
lesser a b = pick (nat_lt a b) a b

unfoldable pub larger : ℤ → ℤ → ℤ
larger a b = pick (int_lt a b) b a

-- a disc is a row of blocks; writes go out one after the other. After a cut the first m of them are done, the block of the next holds anything
unfoldable pub written : List (List ℕ) → List (ℕ × List ℕ) → List (List ℕ)
written d [] = d
written d (w ∷ ws) = written (slice_set d w.0 w.1) ws

unfoldable pub torn_off : List (List ℕ) → List (ℕ × List ℕ) → ℕ → List ℕ → List (List ℕ)
torn_off d [] m anything = d
torn_off d (w ∷ ws) zero anything = slice_set d w.0 anything
torn_off d (w ∷ ws) (suc m) anything = torn_off (slice_set d w.0 w.1) ws m anything

-- an item's price of the last day's end, and by how much trades and the next day's end may differ from it
pub record Item : Type 0 where
  pub price : ℕ
  pub band : ℕ

pub data Side : Type 0 where
  buy : Side
  sell : Side

pub record Order : Type 0 where
  pub number : ℕ
  pub account : ℕ
  pub item : ℕ
  pub side : Side
  pub price : ℕ
  pub left : ℕ

pub record Account : Type 0 where
  pub cash : ℤ
  pub holds : List ℤ

-- most orders that may stand, most money that may be in all accounts together, most of an item that an account may come to hold or owe,
-- and which kinds of messages there are yet, by their numbers: pay_in 1, pay_out 2, place 3, cancel 4, end_day 5, begin_day 6
pub record Limits : Type 0 where
  pub orders : ℕ
  pub money : ℕ
  pub holding : ℕ
  pub built : ℕ → Bool

-- orders in the order in which they came; next: the next order's number; money: what was paid in and not out
pub record World : Type 0 where
  pub items : List Item
  pub accounts : List Account
  pub orders : List Order
  pub next : ℕ
  pub money : ℕ
  pub trading : Bool

pub data Message : Type 0 where
  pay_in : ℕ → ℕ → Message
  pay_out : ℕ → ℕ → Message
  place : ℕ → ℕ → Side → ℕ → ℕ → Message
  cancel : ℕ → ℕ → Message
  end_day : List ℕ → List ℕ → Message
  begin_day : Message

pub data Report : Type 0 where
  done : ℕ → Report
  no : Report
  trade : ℕ → ℕ → ℕ → ℕ → ℕ → Report
  torn : ℕ → ℕ → ℕ → ℤ → Report

unfoldable pub is_buy : Side → Bool
is_buy buy = true
is_buy sell = false

abbrev pub no_item : Item
no_item = record { price = 0; band = 0 }

abbrev pub nobody : Account
nobody = record { cash = pos 0; holds = [] }

abbrev pub no_order : Order
no_order = record { number = 0; account = 0; item = 0; side = buy; price = 0; left = 0 }

unfoldable pub item : World → ℕ → Item
item w k = slice_index_or w.items k no_item

unfoldable pub account : World → ℕ → Account
account w a = slice_index_or w.accounts a nobody

unfoldable pub held : Account → ℕ → ℤ
held x k = slice_index_or x.holds k (pos 0)

-- what the standing buy orders of account a in item k could lose by the day's end, if all are carried out, with i the item
unfoldable pub buys : ℕ → ℕ → Item → List Order → ℕ
buys a k i [] = 0
buys a k i (o ∷ os) =
    pick (o.account == a && (o.item == k && is_buy o.side)) (o.left * ((o.price + i.band) - i.price)) 0 + buys a k i os

unfoldable pub sells : ℕ → ℕ → Item → List Order → ℕ
sells a k i [] = 0
sells a k i (o ∷ os) =
    pick (o.account == a && (o.item == k && not (is_buy o.side))) (o.left * ((i.price + i.band) - o.price)) 0 + sells a k i os

-- the most that account a can lose in item k by the day's end, with the orders os: when the price falls by the band, or rises by it
unfoldable pub need_in : ℕ → ℕ → Item → ℤ → List Order → ℤ
need_in a k i h os = larger ((h *ℤ pos i.band) +ℤ pos (buys a k i os)) (neg_ℤ (h *ℤ pos i.band) +ℤ pos (sells a k i os))

unfoldable pub need_from : ℕ → ℕ → List Item → Account → List Order → ℤ
need_from a k [] x os = pos 0
need_from a k (i ∷ is) x os = need_in a k i (held x k) os +ℤ need_from a (suc k) is x os

-- the most that account a can lose by the day's end
unfoldable pub need : World → ℕ → List Order → ℤ
need w a os = need_from a 0 w.items (account w a) os

unfoldable pub with_account : World → ℕ → Account → World
with_account w a x =
    record { items = w.items; accounts = slice_set w.accounts a x; orders = w.orders; next = w.next; money = w.money; trading = w.trading }

unfoldable pub with_orders : World → List Order → World
with_orders w os = record { items = w.items; accounts = w.accounts; orders = os; next = w.next; money = w.money; trading = w.trading }

unfoldable pub with_money : World → ℕ → World
with_money w m = record { items = w.items; accounts = w.accounts; orders = w.orders; next = w.next; money = m; trading = w.trading }

-- account a gets x of item k (x may be below 0) for p each; gains and losses against the item's price are money
unfoldable pub gets : World → ℕ → ℕ → ℤ → ℕ → World
gets w a k x p =
    with_account w a (record {
      cash = (account w a).cash -ℤ (x *ℤ (pos p -ℤ pos (item w k).price));
      holds = slice_set (account w a).holds k (held (account w a) k +ℤ x);
    })

-- whether order o could trade with one of price p on the other side; whether price p is better for o than price q
unfoldable pub crosses : Order → ℕ → Bool
crosses o p = pick (is_buy o.side) (nat_le p o.price) (nat_le o.price p)

unfoldable pub better : Order → ℕ → ℕ → Bool
better o p q = pick (is_buy o.side) (nat_lt p q) (nat_lt q p)

unfoldable pub other_side : Order → Order → Bool
other_side o r = pick (is_buy o.side) (not (is_buy r.side)) (is_buy r.side)

unfoldable pub meets : Order → Order → Bool
meets o r = r.item == o.item && (other_side o r && crosses o r.price)

-- the place of the order that o trades with first: the best price, and of equals the one that came first; the number of orders if there is none
unfoldable pub best : Order → List Order → ℕ
best o [] = 0
best o (r ∷ rs) =
    pick (meets o r)
    (pick (nat_lt (best o rs) (length rs) && better o (slice_index_or rs (best o rs) no_order).price r.price) (suc (best o rs)) 0)
    (suc (best o rs))

unfoldable pub less_left : Order → ℕ → Order
less_left o x = record { number = o.number; account = o.account; item = o.item; side = o.side; price = o.price; left = o.left - x }

-- the order in place j has x less left, and is gone if nothing is
unfoldable pub taken : ℕ → ℕ → List Order → List Order
taken j x [] = []
taken zero x (r ∷ rs) = pick (nat_le r.left x) rs (less_left r x ∷ rs)
taken (suc j) x (r ∷ rs) = r ∷ taken j x rs

-- order o of account a trades x with order r
unfoldable pub traded : World → Order → Order → ℕ → ℕ → World
traded w o r j x =
    pick (is_buy o.side)
    (gets (gets (with_orders w (taken j x w.orders)) o.account o.item (pos x) r.price) r.account o.item (neg_ℤ (pos x)) r.price)
    (gets (gets (with_orders w (taken j x w.orders)) o.account o.item (neg_ℤ (pos x)) r.price) r.account o.item (pos x) r.price)

unfoldable pub matched : ℕ → World → Order → World × List Report
matched zero w o = (with_orders w (w.orders ++ o ∷ []), [])
matched (suc n) w o =
    pick (o.left == 0) (w, [])
    (pick (nat_le (length w.orders) (best o w.orders))
    (with_orders w (w.orders ++ o ∷ []), [])
    (let r = slice_index_or w.orders (best o w.orders) no_order in
    let (v, rs) = matched n (traded w o r (best o w.orders) (lesser o.left r.left)) (less_left o (lesser o.left r.left)) in
    (v, trade o.number r.number o.item r.price (lesser o.left r.left) ∷ rs)))

unfoldable pub new_order : World → ℕ → ℕ → Side → ℕ → ℕ → Order
new_order w a k s p q = record { number = w.next; account = a; item = k; side = s; price = p; left = q }

unfoldable pub counted : World → World
counted w = record { items = w.items; accounts = w.accounts; orders = w.orders; next = suc w.next; money = w.money; trading = w.trading }

unfoldable pub covered : World → ℕ → List Order → Bool
covered w a os = int_le (need w a os) (account w a).cash

unfoldable pub number_at : ℕ → ℕ → List Order → ℕ
number_at a n [] = 0
number_at a n (o ∷ os) = pick (o.number == n && o.account == a) 0 (suc (number_at a n os))

unfoldable pub without : ℕ → List Order → List Order
without j [] = []
without zero (o ∷ os) = os
without (suc j) (o ∷ os) = o ∷ without j os

-- the day's end: each holding's gain or loss is paid, orders are gone
unfoldable pub gain : ℕ → List Item → List ℕ → Account → ℤ
gain k [] ps x = pos 0
gain k (i ∷ is) [] x = pos 0
gain k (i ∷ is) (p ∷ ps) x = (held x k *ℤ (pos p -ℤ pos i.price)) +ℤ gain (suc k) is ps x

unfoldable pub paid : List Item → List ℕ → List Account → List Account
paid is ps [] = []
paid is ps (x ∷ xs) = record { cash = x.cash +ℤ gain 0 is ps x; holds = x.holds } ∷ paid is ps xs

unfoldable pub new_items : List ℕ → List ℕ → List Item
new_items [] bs = []
new_items (p ∷ ps) [] = []
new_items (p ∷ ps) (b ∷ bs) = record { price = p; band = b } ∷ new_items ps bs

-- each price is within its item's band, each band at least 1 and no larger than its price
unfoldable pub prices_fit : List Item → List ℕ → List ℕ → Bool
prices_fit [] [] [] = true
prices_fit [] [] (b ∷ bs) = false
prices_fit [] (p ∷ ps) bs = false
prices_fit (i ∷ is) [] bs = false
prices_fit (i ∷ is) (p ∷ ps) [] = false
prices_fit (i ∷ is) (p ∷ ps) (b ∷ bs) =
    (nat_le i.price (p + i.band) && nat_le p (i.price + i.band)) && ((nat_le 1 b && (nat_le b p && nat_le p 1000000)) && prices_fit is ps bs)

-- account a's holding of item k is torn up, against others that hold the other way, by their numbers, at the item's price
unfoldable pub opposite : ℤ → ℤ → Bool
opposite h g = (int_lt (pos 0) h && int_lt g (pos 0)) || (int_lt h (pos 0) && int_lt (pos 0) g)

unfoldable pub signed : ℤ → ℕ → ℤ
signed h x = pick (int_lt h (pos 0)) (neg_ℤ (pos x)) (pos x)

unfoldable pub abs : ℤ → ℕ
abs h = pick (int_lt h (pos 0)) (suc (mag h)) (mag h)

unfoldable pub tear : ℕ → ℕ → ℕ → ℕ → World → World × List Report
tear zero b a k w = (w, [])
tear (suc n) b a k w =
    pick (opposite (held (account w a) k) (held (account w b) k))
    (let s = signed (held (account w a) k) (lesser (abs (held (account w a) k)) (abs (held (account w b) k))) in
    let (v, rs) = tear n (suc b) a k (gets (gets w a k (neg_ℤ s) (item w k).price) b k s (item w k).price) in
    (v, torn a b k s ∷ rs))
    (tear n (suc b) a k w)

unfoldable pub tear_items : ℕ → ℕ → ℕ → World → World × List Report
tear_items zero k a w = (w, [])
tear_items (suc n) k a w =
    let (v, rs) = tear (length w.accounts) 0 a k w in let (u, qs) = tear_items n (suc k) a v in (u, rs ++ qs)

unfoldable pub tear_all : ℕ → ℕ → World → World × List Report
tear_all zero a w = (w, [])
tear_all (suc n) a w =
    pick (covered w a w.orders) (tear_all n (suc a) w)
    (let (v, rs) = tear_items (length w.items) 0 a w in let (u, qs) = tear_all n (suc a) v in (u, rs ++ qs))

-- all that account a would buy and sell of item k by the orders
unfoldable pub standing : ℕ → ℕ → List Order → ℕ
standing a k [] = 0
standing a k (o ∷ os) = pick (o.account == a && o.item == k) o.left 0 + standing a k os

unfoldable pub kind : Message → ℕ
kind (pay_in a x) = 1
kind (pay_out a x) = 2
kind (place a k s p q) = 3
kind (cancel a n) = 4
kind (end_day ps bs) = 5
kind begin_day = 6

unfoldable pub says_it : Limits → World → Message → World × List Report
says_it z w (pay_in a x) =
    pick (nat_lt a (length w.accounts) && (nat_le 1 x && nat_le (w.money + x) z.money))
    (with_money (with_account w a (record { cash = (account w a).cash +ℤ pos x; holds = (account w a).holds })) (w.money + x), done 0 ∷ [])
    (w, no ∷ [])
says_it z w (pay_out a x) =
    pick (nat_lt a (length w.accounts) && (nat_le 1 x && int_le (need w a w.orders) ((account w a).cash -ℤ pos x)))
    (with_money (with_account w a (record { cash = (account w a).cash -ℤ pos x; holds = (account w a).holds })) (w.money - x), done 0 ∷ [])
    (w, no ∷ [])
says_it z w (place a k s p q) =
    pick ((w.trading && (nat_lt a (length w.accounts) && nat_lt k (length w.items))) &&
    (((nat_le 1 q && nat_le q 1000000) && (nat_le (item w k).price (p + (item w k).band) && nat_le p ((item w k).price + (item w k).band))) &&
    ((nat_lt (length w.orders) z.orders && nat_lt w.next 9223372036854775808) &&
    (nat_le (abs (held (account w a) k) + standing a k w.orders + q) z.holding && covered w a (w.orders ++ new_order w a k s p q ∷ [])))))
    (let (v, rs) = matched (suc (length w.orders)) (counted w) (new_order w a k s p q) in (v, done w.next ∷ rs))
    (w, no ∷ [])
says_it z w (cancel a n) =
    pick (nat_lt (number_at a n w.orders) (length w.orders))
    (with_orders w (without (number_at a n w.orders) w.orders), done 0 ∷ []) (w, no ∷ [])
says_it z w (end_day ps bs) =
    pick (w.trading && prices_fit w.items ps bs)
    (record { items = new_items ps bs; accounts = paid w.items ps w.accounts; orders = []; next = w.next; money = w.money; trading = false }, done 0 ∷ [])
    (w, no ∷ [])
says_it z w begin_day =
    pick w.trading (w, no ∷ [])
    (let (v, rs) = tear_all (length w.accounts) 0 w in
    (record { items = v.items; accounts = v.accounts; orders = v.orders; next = v.next; money = v.money; trading = true }, done 0 ∷ rs))

-- a message of a kind that there isn't yet is refused
unfoldable pub says : Limits → World → Message → World × List Report
says z w m = pick (z.built (kind m)) (says_it z w m) (w, no ∷ [])

unfoldable pub run : Limits → World → List Message → World
run z w [] = w
run z w (m ∷ ms) = run z (says z w m).0 ms

unfoldable pub reports : Limits → World → List Message → List (List Report)
reports z w [] = []
reports z w (m ∷ ms) = (says z w m).1 ∷ reports z (says z w m).0 ms

-- the first morning: items with a price and a band, so many accounts with nothing
unfoldable pub first : List Item → ℕ → World
first is n =
    record { items = is; accounts = replicate n (record { cash = pos 0; holds = replicate (length is) (pos 0) }); orders = []; next = 1; money = 0; trading = false }
