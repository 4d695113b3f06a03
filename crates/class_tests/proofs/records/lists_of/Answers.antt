use Rattle.class_tests.proofs.records.lists_of.Goals as goal

pub account_page-requires : goal.account_page-requires
account_page-requires c = (c.requires.0, c.requires.1)
