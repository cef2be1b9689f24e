-- What a header says. Assumes nothing: this is a definition.
use Rattle.disc.specs.Few.{few_items}
use Rattle.disc.specs.Numbers.{Numbers, numbers_of}
use Rattle.disc.specs.declared.header.Header.{Header}

abbrev pub header_of : Header → Numbers
header_of h = numbers_of (few_items h.items) h.accounts h.orders h.money
