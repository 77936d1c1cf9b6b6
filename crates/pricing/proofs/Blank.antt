-- The order that stands for one past the end of a list.
use Rattle.rules.specs.declared.order.Order.{Order}
use Rattle.rules.specs.declared.order.Side.TheVariants.{Buy}
use Rattle.rules.specs.declared.order.Validity.TheVariants.{Day}

abbrev pub blank : Order
blank = record { number = 0; side = Buy; limit = 0; «open» = 0; validity = Day }
