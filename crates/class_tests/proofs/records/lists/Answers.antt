use Rattle.class_tests.proofs.records.lists.Goals as goal

pub bucket_page-requires : goal.bucket_page-requires
bucket_page-requires c = (c.requires.0, c.requires.1)
