mod PutLines
