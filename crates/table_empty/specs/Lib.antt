pub mod EmptyTable
