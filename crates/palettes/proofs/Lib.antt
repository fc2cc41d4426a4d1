pub mod InTable
