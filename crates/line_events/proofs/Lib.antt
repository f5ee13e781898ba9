pub mod RowsChanged
