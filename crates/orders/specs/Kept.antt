-- What an order in the register's keeping means. Assumes nothing.
use Rattle.std.specs.Prelude.{ℕ, List}
use Rattle.orders.specs.declared.order.Order.{Order}
use Rattle.orders.specs.Fixed.{fixed_items}

abbrev pub order_bytes : Order → List ℕ
order_bytes o = fixed_items o.bytes
